-- Taking touched documents over, one after another.
use Rattle.std.specs.Prelude.{◌≡◌, ◌+◌, ◌-◌, ℕ, List, [], ◌∷◌, ◌++◌, length, take, map, refl}
use Rattle.std.proofs.Common.{ap, sym, ◌∙◌, arith}
use Rattle.std.proofs.Math.ListN.{length-map}
use Rattle.std.proofs.lemmas.List.{length-append, map-append, take-map}
use Rattle.model.specs.Map.{Map}
use Rattle.model.specs.Command.{Id, names}
use Rattle.model.specs.PurgeLog.{PurgeInfo, purges_since}
use Rattle.model.specs.Database.{Database, Record}
use Rattle.model.specs.Changes.{every_id, changed_since}
use Rattle.model.specs.Compaction.{Marks, Touched, of_purge, of_update, touched, touched_id, past, passed}
use Rattle.model.proofs.TouchedLaws.{passed-append, take-append}
use Rattle.purge.specs.Log.{PurgedEntry, info_of}
use Rattle.snapshots.specs.Listing.{Listing}
use Rattle.snapshots.specs.Taken.{taken_one, taken_all}
use Rattle.snapshots.proofs.Taken.{taken_all-push, taken_all-append}

module _ (ts us : List Touched) (t : Touched) (more : us ≡ ts ++ t ∷ []) where
  pub taken-more : (start was later : Listing) (d : Database) (id : Id) → was ≡ record start { docs = taken_all start.docs d (map touched_id ts) } → id ≡ touched_id t → later ≡ record was { docs = taken_one was.docs d id } → later ≡ record start { docs = taken_all start.docs d (map touched_id us) }
  taken-more start was later d id so_far its step =
      step
      ∙ ap (λ (l : Listing). record l { docs = taken_one l.docs d id }) so_far
      ∙ ap (λ i. record start { docs = taken_one (taken_all start.docs d (map touched_id ts)) d i }) its
      ∙ ap (λ (docs : Map names Record). record start { docs = docs }) (sym (taken_all-push start.docs d (map touched_id ts) (touched_id t)))
      ∙ ap (λ ids. record start { docs = taken_all start.docs d ids }) (sym (map-append touched_id ts (t ∷ [])) ∙ ap (map touched_id) (sym more))

  pub passed-more : (m now : Marks) → now ≡ passed m ts → past now t ≡ passed m us
  passed-more m now so_far = ap (λ k. past k t) so_far ∙ sym (passed-append m ts (t ∷ [])) ∙ ap (passed m) (sym more)

-- what a walk of purges and one of updates has yielded
module _ {A : Type 0} (f : A → ℕ × PurgedEntry) (xs : List A) (x : A) where
  pub purges-push : map of_purge (map info_of (map f (xs ++ x ∷ []))) ≡ map of_purge (map info_of (map f xs)) ++ of_purge (info_of (f x)) ∷ []
  purges-push =
      ap (λ es. map of_purge (map info_of es)) (map-append f xs (x ∷ []))
      ∙ ap (map of_purge) (map-append info_of (map f xs) (f x ∷ []))
      ∙ map-append of_purge (map info_of (map f xs)) (info_of (f x) ∷ [])

module _ {A : Type 0} (f : A → ℕ × (Id × Record)) (xs : List A) (x : A) where
  pub updates-push : map of_update (map f (xs ++ x ∷ [])) ≡ map of_update (map f xs) ++ of_update (f x) ∷ []
  updates-push = ap (map of_update) (map-append f xs (x ∷ [])) ∙ map-append of_update (map f xs) (f x ∷ [])

-- the first purges
pub purges-taken : (n : ℕ) (xs : List (ℕ × PurgedEntry)) (ps : List PurgeInfo) → map info_of xs ≡ ps → map of_purge (map info_of (take n xs)) ≡ map of_purge (take n ps)
purges-taken n xs ps is = ap (map of_purge) (sym (take-map info_of n xs) ∙ ap (take n) is)

-- the first touched are purges and then updates
module _ (d : Database) (m : Marks) (n k : ℕ) (rest : k ≡ n - length (purges_since d.purges m.purge)) where
  abbrev purges : List Touched
  purges = map of_purge (take n (purges_since d.purges m.purge))

  abbrev updates : List Touched
  updates = map of_update (take k (changed_since every_id d m.update))

  pub first-touched : take n (touched d m) ≡ purges ++ updates
  first-touched =
      take-append n k (map of_purge (purges_since d.purges m.purge)) (map of_update (changed_since every_id d m.update)) (omega (arith, rest, length-map (purges_since d.purges m.purge) of_purge))
      ∙ (λ i. take-map of_purge n (purges_since d.purges m.purge) i ++ take-map of_update k (changed_since every_id d m.update) i)

  pub count-touched : length (take n (touched d m)) ≡ length (take n (purges_since d.purges m.purge)) + length (take k (changed_since every_id d m.update))
  count-touched = omega (arith, ap length first-touched, length-append purges updates, length-map (take n (purges_since d.purges m.purge)) of_purge, length-map (take k (changed_since every_id d m.update)) of_update)

  pub taken-both : (start was later : Listing) → was ≡ record start { docs = taken_all start.docs d (map touched_id purges) } → later ≡ record was { docs = taken_all was.docs d (map touched_id updates) } → later ≡ record start { docs = taken_all start.docs d (map touched_id (take n (touched d m))) }
  taken-both start was later one two =
      two
      ∙ ap (λ (l : Listing). record l { docs = taken_all l.docs d (map touched_id updates) }) one
      ∙ ap (λ (docs : Map names Record). record start { docs = docs }) (sym (taken_all-append start.docs d (map touched_id purges) (map touched_id updates)))
      ∙ ap (λ ids. record start { docs = taken_all start.docs d ids }) (sym (map-append touched_id purges updates) ∙ ap (map touched_id) (sym first-touched))

  pub passed-both : (was later : Marks) → was ≡ passed m purges → later ≡ passed was updates → later ≡ passed m (take n (touched d m))
  passed-both was later one two = two ∙ ap (λ k. passed k updates) one ∙ sym (passed-append m purges updates) ∙ ap (passed m) (sym first-touched)

-- purges move no mark of updates
pub same-update : (m : Marks) (ps : List PurgeInfo) → (passed m (map of_purge ps)).update ≡ m.update
same-update m [] = refl
same-update m (p ∷ ps) = same-update (past m (of_purge p)) ps
