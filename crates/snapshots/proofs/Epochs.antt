-- What an epoch begins with.
use Rattle.std.specs.Prelude.{◌≡◌, ◌↔◌, List, [], Option, Some, None, IfSome}
use Rattle.std.proofs.Common.{ap, sym, subst, ◌∙◌, arith}
use Rattle.std.proofs.lemmas.Option.{none-some, same_Some}
use Rattle.std.proofs.lemmas.List.Elements.{All-nil}
use Rattle.model.specs.Command.{Entry, IsEntry}
use Rattle.model.specs.Database.{Database}
use Rattle.model.specs.History.{Chronicle, now, IsBase}
use Rattle.snapshots.specs.Parts.{AreParts, BeginsFrom}
use Rattle.snapshots.specs.Version.{IsHistory, IsVersion, chronicle_of}
use Rattle.snapshots.specs.declared.database.parts.DatabaseParts.{DatabaseParts}

IsHistory-begun : (b : Database) → IsBase b → IsHistory (chronicle_of (Some b) [])
IsHistory-begun b is = record {
  base = is;
  legal = tt;
  valid = All-nil IsEntry;
  database = is.database;
  few = omega arith;
  numbers = omega arith;
  purges = omega arith;
}

pub view-begun : (b : Database) (base : Option Database) (entries : List Entry) → base ≡ Some b → entries ≡ [] → chronicle_of base entries ≡ chronicle_of (Some b) []
view-begun b base entries same none = λ i. chronicle_of (same i) (none i)

pub IsVersion-begun : (b : Database) (base : Option Database) (entries : List Entry) → IsBase b → base ≡ Some b → entries ≡ [] → IsVersion base b entries
IsVersion-begun b base entries is same none =
    let view = sym (view-begun b base entries same none) in
    record {
      history = subst IsHistory view (IsHistory-begun b is);
      replayed = ap now view;
    }

-- ---- what is made of parts, or not

-- nothing, where a part can't be had
pub refused : {X Y P : Type 0} (part : Option X) (x : X) (y : Y) → part ≡ None → (P → part ≡ Some x) → ◌≡◌ {A = Option Y} None (Some y) ↔ P
refused part x y none gives = (λ e. absurd (none-some y e), λ p. absurd (none-some x (sym none ∙ gives p)))

-- that alone of which P holds
pub made_only : {Y : Type 0} (P : Y → Type 0) (made y : Y) → P made → (P y → made ≡ y) → (Some made ≡ Some y) ↔ P y
made_only P made y is only = (λ e. subst P (same_Some made y e) is, λ p. ap Some (only p))

-- what holds of the value that is there
pub at_some : {X : Type 0} (P : X → Type 0) (o : Option X) (x : X) → IfSome o P → o ≡ Some x → P x
at_some P o x h e = subst (λ p. IfSome p P) e h

-- the version over the database that was made, and no other
pub begun_only : (parts : DatabaseParts) (part : Option Database) (made : Database) (v w : Chronicle) → part ≡ Some made → v ≡ chronicle_of (Some made) []
    → ((d : Database) → (part ≡ Some d) ↔ (AreParts parts d × IsBase d)) → (Some v ≡ Some w) ↔ BeginsFrom parts w
begun_only parts part made v w there is only = (
  λ e.
      let same : chronicle_of (Some made) [] ≡ w = sym is ∙ same_Some v w e in
      let fits = (only made).0 there in
      record { database = made; base = ap (λ (c : Chronicle). c.base) (sym same); entries = ap (λ (c : Chronicle). c.entries) (sym same); made_of = fits.0; is_base = fits.1 },
  λ h.
      let named : w.base ≡ Some made = h.base ∙ sym ((only h.database).1 (h.made_of, h.is_base)) ∙ there in
      ap Some (is ∙ sym (view-begun made w.base w.entries named h.entries)),
)

pub not_begun : (parts : DatabaseParts) (part : Option Database) (w : Chronicle) → part ≡ None → ((d : Database) → (part ≡ Some d) ↔ (AreParts parts d × IsBase d)) → ◌≡◌ {A = Option Chronicle} None (Some w) ↔ BeginsFrom parts w
not_begun parts part w none only = (λ e. absurd (none-some w e), λ h. absurd (none-some h.database (sym none ∙ (only h.database).1 (h.made_of, h.is_base))))
