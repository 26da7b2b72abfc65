-- The revisions that a list names, as they are read back.
use Rattle.std.proofs.Common.{◌≡◌, ◌+◌, ◌*◌, ◌≤◌, true, false, List, [], ◌∷◌, length, map, refl, ap, ◌∙◌, arith, All, IsUtf8, length-append, Ok, Some, None, lit<, lit≤}
use Rattle.std.specs.Prelude.{codes, if◌then◌else◌}
use Rattle.std.specs.Str.{bytes_eq}
use Rattle.std.proofs.lemmas.Fmt.{length-decimal-le}
use Rattle.std.proofs.lemmas.List.Elements.{All-head, All-tail}
use Rattle.serde_json.specs.View.{items_of}
use Rattle.serde_json.specs.Written.{compact_text, items_text}
use Rattle.model.specs.Profile.{IsTextOf}
use Rattle.model.specs.Revision.{Rev, IsRev, rev_text}
use Rattle.document_json.specs.Each.{each}
use Rattle.document_json.specs.Steps.{Checked, and_then, or_refused}
use Rattle.document_json.specs.Written.{rev_data, revs_data}
use Rattle.document_json.specs.declared.fault.Reason.TheVariants as reason
use Rattle.document_json.proofs.JsonTexts.{json_of-value}
use Rattle.document_json.proofs.RevisionTexts.{rev_named-is}
use Rattle.document_json.proofs.TextLengths.{length-rev as exact_length}
use Rattle.api_json.specs.TextLists.{are_texts, rev_in, text_list_of, texts_found, texts_in}
use Rattle.api_json.proofs.NamedRevisions.{listed-texts}
use Rattle.history_json.proofs.InProfile.{sound_revs}
use Rattle.history_json.proofs.Sound.{Sound, sound_text}

-- ---- a check of each

-- where each is found, all are
pub each_found : {X Y Z : Type 0} (check : Y → Checked Z) (of_x : X → Y) (is : X → Z) (P : X → Type 0) → ((x : X) → P x → check (of_x x) ≡ Ok (is x))
    → (xs : List X) → All P xs → each check (map of_x xs) ≡ Ok (map is xs)
each_found check of_x is P found [] all = refl
each_found {X} {Y} {Z} check of_x is P found (x ∷ xs) all =
    ap (λ c. and_then c (λ z. and_then (each check (map of_x xs)) (λ zs. Ok (z ∷ zs)))) (found x (All-head P x xs all))
    ∙ ap (λ (c : Checked (List Z)). and_then c (λ zs. Ok (is x ∷ zs))) (each_found check of_x is P found xs (All-tail P x xs all))

pub map-same : {X : Type 0} (xs : List X) → map (λ x. x) xs ≡ xs
map-same [] = refl
map-same (x ∷ xs) = ap (λ rest. x ∷ rest) (map-same xs)

-- ---- revisions

rev_read : (rev : Rev) → IsRev rev → rev_in (rev_data rev) ≡ Ok rev
rev_read rev h = ap (λ found. or_refused found reason.Revision) (rev_named-is rev (rev_text rev) h refl)

pub revs_read : (revs : List Rev) → All IsRev revs → each rev_in (map rev_data revs) ≡ Ok revs
revs_read revs h = each_found rev_in rev_data (λ rev. rev) IsRev rev_read revs h ∙ ap Ok (map-same revs)

texts : (revs : List Rev) → are_texts (map rev_data revs) ≡ true
texts [] = refl
texts (rev ∷ revs) = texts revs

pub listed : (revs : List Rev) → texts_in (revs_data revs) ≡ Some (map rev_data revs)
listed revs = listed-texts (revs_data revs) (map rev_data revs) refl ∙ ap (λ test. if test then Some (map rev_data revs) else None) (texts revs)

-- ---- the text of a list

sound : (revs : List Rev) → All IsRev revs → Sound 2 (revs_data revs)
sound revs h = sound_revs 1 revs h

reads : (revs : List Rev) → All IsRev revs → IsTextOf (revs_data revs) (compact_text (revs_data revs))
reads revs h = sound_text 2 (revs_data revs) (omega arith) (sound revs h)

pub list_text : (revs : List Rev) → All IsRev revs → IsUtf8 (compact_text (revs_data revs))
list_text revs h = (reads revs h).0

pub list_read : (revs : List Rev) → All IsRev revs → text_list_of (compact_text (revs_data revs)) ≡ Some (map rev_data revs)
list_read revs h =
    let s = sound revs h in
    ap texts_found (json_of-value (revs_data revs) (compact_text (revs_data revs)) (reads revs h) s.whole (omega (arith, s.nests))) ∙ listed revs

pub not_all : (revs : List Rev) → bytes_eq (compact_text (revs_data revs)) (codes "all") ≡ false
not_all revs = refl

-- ---- its length

length-rev : (rev : Rev) → IsRev rev → length (compact_text (rev_data rev)) ≤ 45
length-rev rev h =
    let top = h.in_range in
    let number = length-decimal-le 10 rev.generation (lit< tt) (omega arith) (omega arith) in
    let exact = exact_length rev h in
    omega (arith, number, exact)

length-rest : (revs : List Rev) → All IsRev revs → length (items_text true (items_of (map rev_data revs))) ≤ 46 * length revs + 1
length-rest [] h = lit≤ tt
length-rest (rev ∷ revs) h =
    let here = length-rev rev (All-head IsRev rev revs h) in
    let later = length-rest revs (All-tail IsRev rev revs h) in
    let size = length-append (compact_text (rev_data rev)) (items_text true (items_of (map rev_data revs))) in
    omega (arith, here, later, size)

pub length-list : (revs : List Rev) → All IsRev revs → length (compact_text (revs_data revs)) ≤ 46 * length revs + 2
length-list [] h = lit≤ tt
length-list (rev ∷ revs) h =
    let here = length-rev rev (All-head IsRev rev revs h) in
    let later = length-rest revs (All-tail IsRev rev revs h) in
    let size = length-append (compact_text (rev_data rev)) (items_text true (items_of (map rev_data revs))) in
    omega (arith, here, later, size)
