-- The first line of a dump.
use Rattle.std.proofs.Common.{◌≡◌, ◌↔◌, ℕ, List, [], ◌∷◌, Option, Some, None, Result, Ok, Err, IfOk, true, refl, sym, ap, subst, ◌∙◌, arith}
use Rattle.std.specs.Prelude.{IfSome, codes}
use Rattle.std.proofs.lemmas.Result.{IfOk-weaker}
use Rattle.model.specs.Command.{Entry}
use Rattle.model.specs.Database.{Database}
use Rattle.model.specs.History.{Chronicle, IsBase}
use Rattle.snapshots.specs.Parts.{BeginsFrom}
use Rattle.snapshots.specs.declared.database.parts.DatabaseParts.{DatabaseParts}
use Rattle.history_json.specs.Lines.{is_one_line}
use Rattle.base_json.specs.Base.{base_text}
use Rattle.base_json.proofs.BaseInProfile.{base-one}
use Rattle.base_json.proofs.BaseLists.{listed_base}
use Rattle.base_json.proofs.BaseTexts.{base_line_text}
use Rattle.history_dump.specs.Dump.{first_line, first_text, BeginsAt, IsFirst}

-- no line feed is in it before its end
pub first-one : (base : Option Database) → IsFirst base → is_one_line (first_text base) ≡ true
first-one None first = refl
first-one (Some base) first = base-one base (listed_base base first)

-- ---- which of the two forms it has

abbrev third : List ℕ → ℕ
third [] = 0
third (a ∷ []) = 0
third (a ∷ b ∷ []) = 0
third (a ∷ b ∷ c ∷ rest) = c

-- a base is no first epoch's line
pub base-apart : (d : Database) → base_text d ≡ codes "{\"couch_history\":1}" → ⊥
base-apart d is = let letter : 98 ≡ 99 = ap third (base_line_text d ∙ is) in absurd (omega (arith, letter))

named_at : (base : Option Database) (es : List Entry) → es ≡ [] → first_text base ≡ codes "{\"couch_history\":1}"
    → ◌≡◌ {A = Chronicle} (record { base = base; entries = es }) (record { base = None; entries = [] })
named_at None es none is = λ i. record { base = None; entries = none i }
named_at (Some d) es none is = absurd (base-apart d is)

-- what begins with a first epoch's line
pub named_none : (v : Chronicle) → v.entries ≡ [] → first_text v.base ≡ codes "{\"couch_history\":1}" → ◌≡◌ {A = Chronicle} (record { base = None; entries = [] }) v
named_none v none is = sym (named_at v.base v.entries none is)

over_at : {F : Type 0} (r : Result (Option Chronicle) F) (text : List ℕ) (base : Option Database) (es : List Entry) → es ≡ [] → IsFirst base → text ≡ first_text base
    → (text ≡ codes "{\"couch_history\":1}" → ⊥)
    → ((d : Database) → IsBase d → text ≡ base_text d → IfOk r (λ found. found ≡ Some (record { base = Some d; entries = [] })))
    → IfOk r (λ found. found ≡ Some (record { base = base; entries = es }))
over_at r text None es none first is apart told = absurd (apart is)
over_at r text (Some d) es none first is apart told =
    let same : ◌≡◌ {A = Option Chronicle} (Some (record { base = Some d; entries = [] })) (Some (record { base = Some d; entries = es })) = λ i. Some (record { base = Some d; entries = sym none i }) in
    IfOk-weaker r _ _ (λ found h. h ∙ same) (told d first is)

-- what begins with a later epoch's line
pub named_over : {F : Type 0} (r : Result (Option Chronicle) F) (text : List ℕ) (v : Chronicle) → v.entries ≡ [] → IsFirst v.base → text ≡ first_text v.base
    → (text ≡ codes "{\"couch_history\":1}" → ⊥)
    → ((d : Database) → IsBase d → text ≡ base_text d → IfOk r (λ found. found ≡ Some (record { base = Some d; entries = [] })))
    → IfOk r (λ found. found ≡ Some v)
named_over r text v none first is apart told = over_at r text v.base v.entries none first is apart told

-- ---- what is made of the parts

pub made_within : {F : Type 0} (parts : DatabaseParts) (r : Result (Option Chronicle) F) → ((v : Chronicle) → IfOk r (λ made. (made ≡ Some v) ↔ BeginsFrom parts v))
    → IfOk r (λ made. IfSome made (λ v. (v.entries ≡ []) × IsFirst v.base))
made_within parts (Err fault) told = tt
made_within parts (Ok None) told = tt
made_within parts (Ok (Some v)) told = let b = (told v).0 refl in (b.entries, subst IsFirst (sym b.base) b.is_base)

-- ---- exactly the line

once : (v w : Chronicle) → Some v ≡ Some w → v ≡ w
once v w is = cc

none_some : (v : Chronicle) → ◌≡◌ {A = Option Chronicle} None (Some v) → ⊥
none_some v is = cc

pub begun : (line : List ℕ) (version : Chronicle) → (version.entries ≡ []) × IsFirst version.base → line ≡ first_line version.base
    → ((v : Chronicle) → BeginsAt line v → Some version ≡ Some v) → (v : Chronicle) → (Some version ≡ Some v) ↔ BeginsAt line v
begun line version within is found v = (λ e. subst (BeginsAt line) (once version v e) (record { entries = within.0; first = within.1; line_is = is }), found v)

pub not_begun : (line : List ℕ) (version : Chronicle) → (line ≡ first_line version.base → ⊥)
    → ((v : Chronicle) → BeginsAt line v → Some version ≡ Some v) → (v : Chronicle) → ◌≡◌ {A = Option Chronicle} None (Some v) ↔ BeginsAt line v
not_begun line version other found v =
    (λ e. absurd (none_some v e), λ b. absurd (other (b.line_is ∙ ap (λ (c : Chronicle). first_line c.base) (sym (once version v (found v b))))))

pub none_begun : (line : List ℕ) → ((v : Chronicle) → BeginsAt line v → ◌≡◌ {A = Option Chronicle} None (Some v)) → (v : Chronicle) → ◌≡◌ {A = Option Chronicle} None (Some v) ↔ BeginsAt line v
none_begun line found v = (λ e. absurd (none_some v e), found v)
