-- Documents that are read from a list.
use Rattle.std.specs.Prelude.{◌≡◌, ◌≢◌, ◌↔◌, ◌<◌, ◌≤◌, ℕ, T, List, [], ◌∷◌, ◌++◌, length, take, drop, get_or, All, Contains, Option, Some, None, refl}
use Rattle.std.specs.Ordering.{nat_cmp}
use Rattle.std.specs.FinMap.Entries as listed
use Rattle.std.specs.FinMap.Entries.{find, is_sorted}
use Rattle.std.proofs.Common.{ap, sym, subst, ◌∙◌}
use Rattle.std.proofs.lemmas.Option.{none-some}
use Rattle.std.proofs.lemmas.List.Elements.{All-contains, Contains-append_left}
use Rattle.std.proofs.lemmas.List.{take-append-drop}
use Rattle.document_id.proofs.Ascending.{new_at, put_next}
use Rattle.model.specs.Map.{Map, entries, get, put, same_list}
use Rattle.model.specs.Command.{Id, names}
use Rattle.model.specs.Database.{Record, IsNumbered, IsRecord}
use Rattle.model.specs.Changes.{at_numbers, by_seq}
use Rattle.model.proofs.IndexLaws.{of_number, at_its_number}
use Rattle.model.proofs.MapLaws.{Contains-entries}
use Rattle.snapshots.specs.Listing.{Listing, IsIndexed, database_of, listing_of}
use Rattle.snapshots.specs.Parts.{AreDocuments}
use Rattle.snapshots.proofs.Epochs.{made_only}

abbrev Listed : Type 0
Listed = List (Id × Record)

-- the number is none of these documents'
abbrev pub IsNew : Map names Record → ℕ → Type 0
IsNew docs n = (id : Id) (r : Record) → get docs id ≡ Some r → r.seq ≢ n

-- what holds of each entry of a list holds of each document
pub each_of : (es : Listed) (docs : Map names Record) → entries docs ≡ es → All (λ d. IsRecord d.0 d.1) es → (id : Id) (r : Record) → get docs id ≡ Some r → IsRecord id r
each_of es docs is all id r at = All-contains (λ d. IsRecord d.0 d.1) es (id, r) all (subst (λ ds. Contains ds (id, r)) is ((Contains-entries names docs id r).1 at))

-- ---- the documents before one

module _ (es : Listed) (sorted : T (is_sorted names.cmp es)) (k : ℕ) (e : Id × Record) (within : k < length es) (there : e ≡ get_or es k e) (docs : Map names Record) (so_far : entries docs ≡ take k es) where
  new_id : get docs e.0 ≡ None
  new_id = ap (find names.cmp e.0) so_far ∙ new_at es k e sorted within there

  pub entries-next : entries (put docs e.0 e.1) ≡ take k es ++ e ∷ []
  entries-next = ap (λ ds. listed.put names.cmp e.0 e.1 ds) so_far ∙ put_next es k e sorted within there

  -- in its list too each number is one document's alone
  module _ (all : Map names Record) (whole : entries all ≡ es) (n : ℕ) (num : IsNumbered (database_of (record { docs = all; update_seq = n }))) where
    its_place : get all e.0 ≡ Some e.1
    its_place = (Contains-entries names all e.0 e.1).0 (subst (λ ds. Contains ds e) (sym whole) (k, within, sym there))

    also : (id : Id) (r : Record) → get docs id ≡ Some r → get all id ≡ Some r
    also id r at =
        let before : Contains (take k es) (id, r) = subst (λ ds. Contains ds (id, r)) so_far ((Contains-entries names docs id r).1 at) in
        (Contains-entries names all id r).0 (subst (λ ds. Contains ds (id, r)) (take-append-drop k es ∙ sym whole) (Contains-append_left (take k es) (drop k es) (id, r) before))

    pub has_room : (0 < e.1.seq) × (e.1.seq ≤ n)
    has_room = num.within e.0 e.1 its_place

    pub is_new : IsNew docs e.1.seq
    is_new id r at same = none-some r (sym new_id ∙ ap (get docs) (num.distinct e.0 id e.1 r its_place (also id r at) (sym same)) ∙ at)

-- ---- a number in the index

module _ (es : Listed) (numbered : List (ℕ × (Id × Record))) (count update_seq : ℕ) (l : Listing) (h : IsIndexed es numbered count update_seq) (is : listing_of es update_seq ≡ l) (n : ℕ) where
  index_is : numbered ≡ entries (at_numbers (database_of l))
  unfolding by_seq
  index_is = h.by_number ∙ ap (λ (k : Listing). entries (at_numbers (database_of k))) is

  -- nothing is under a number exactly where no document has it
  pub free : find nat_cmp n numbered ≡ None → IsNew l.docs n
  free none id r at same =
      let num = subst (λ (k : Listing). IsNumbered (database_of k)) is h.numbers in
      none-some (id, r) (sym none ∙ ap (find nat_cmp n) index_is ∙ at_its_number (database_of l) n id r num (at, same))

  pub unused : IsNew l.docs n → find nat_cmp n numbered ≡ None
  unused new = at (find nat_cmp n numbered) refl
    where
      at : (o : Option (Id × Record)) → find nat_cmp n numbered ≡ o → o ≡ None
      at None e = refl
      at (Some d) e = let was = of_number (database_of l) n d.0 d.1 (ap (find nat_cmp n) (sym index_is) ∙ e) in absurd (new d.0 d.1 was.0 was.1)

-- ---- the documents of the whole list

module _ (es : Listed) (n : ℕ) where
  pub rises : (l : Listing) → AreDocuments es l → T (is_sorted names.cmp es)
  rises l h = subst (λ ds. T (is_sorted names.cmp ds)) h.entries l.docs.sorted

  pub listing_only : (made l : Listing) → entries made.docs ≡ es → made.update_seq ≡ n → All (λ d. IsRecord d.0 d.1) es → IsNumbered (database_of made)
      → (Some made ≡ Some l) ↔ ((l.update_seq ≡ n) × AreDocuments es l)
  listing_only made l docs seq all num = made_only (λ (k : Listing). (k.update_seq ≡ n) × AreDocuments es k) made l
      (seq, record { entries = docs; each = each_of es made.docs docs all; numbers = num })
      (λ h. λ i. record { docs = same_list made.docs l.docs (docs ∙ sym h.1.entries) i; update_seq = (seq ∙ sym h.0) i })

  pub numbers_at : (l : Listing) → (l.update_seq ≡ n) × AreDocuments es l → IsNumbered (database_of (record { docs = l.docs; update_seq = n }))
  numbers_at l h = subst (λ k. IsNumbered (database_of (record { docs = l.docs; update_seq = k }))) h.0 h.1.numbers
