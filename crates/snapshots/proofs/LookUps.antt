-- Look-ups of some documents.
use Rattle.std.specs.Prelude.{◌≡◌, ◌+◌, ◌<◌, ◌≤◌, ◌++◌, ◌∷◌, [], ℕ, List, length, map, take, drop, Option, Some}
use Rattle.std.proofs.Common.{get_or, ap, sym, ◌∙◌, arith}
use Rattle.std.proofs.lemmas.List.{get_or-map, length-map, map-append, take_all, take_more}
use Rattle.std.proofs.Math.Seq.{take-append_seam}
use Rattle.model.specs.Map.{get}
use Rattle.model.specs.Command.{Id}
use Rattle.model.specs.Database.{Database, Record, IsNumbered}
use Rattle.model.specs.Changes.{changed_since, wanted_by}
use Rattle.snapshots.specs.Among.{with_change}
use Rattle.snapshots.proofs.Among.{with_change-next}

-- the document of the id, as a look-up finds it
abbrev pub look_up : Database → Id → Id × Option Record
look_up d id = (id, get d.docs id)

-- what changed of the first of some documents
abbrev pub changed_of : Database → ℕ → List Id → List (ℕ × (Id × Record))
changed_of d since ids = changed_since (wanted_by (Some ids)) d since

pub look_ups-next : (d : Database) (ids : List Id) (id : Id) (more : List (Id × Option Record)) → more ≡ map (look_up d) ids → more ++ look_up d id ∷ [] ≡ map (look_up d) (ids ++ id ∷ [])
look_ups-next d ids id more is = ap (λ es. es ++ look_up d id ∷ []) is ∙ sym (map-append (look_up d) ids (id ∷ []))

module _ (d : Database) (ids : List Id) (found : List (Id × Option Record)) (is : found ≡ map (look_up d) ids) where
  as_many : length found ≡ length ids
  as_many = ap length is ∙ length-map ids (look_up d)

  -- the next of them adds its change
  pub changed-next : IsNumbered d → (since k : ℕ) (e : Id × Option Record) → k < length found → e ≡ get_or found k e → with_change since e.0 e.1 (changed_of d since (take k ids)) ≡ changed_of d since (take (k + 1) ids)
  changed-next num since k e within there =
      let id : Id = get_or ids k e.0 in
      let few : k < length ids = omega (arith, as_many) in
      let at : e ≡ look_up d id = there ∙ ap (λ es. get_or es k e) is ∙ get_or-map (look_up d) ids k e.0 e few in
      (λ i. with_change since (at i).0 (at i).1 (changed_of d since (take k ids)))
      ∙ with_change-next d num since (take k ids) id
      ∙ ap (changed_of d since) (sym (take_more ids k e.0 few))

  pub changed-all : (since k : ℕ) → length found ≤ k → changed_of d since (take k ids) ≡ changed_of d since ids
  changed-all since k past = ap (changed_of d since) (take_all k ids (omega (arith, as_many)))

-- a vector over which the elements that it has were written
pub refilled : {X : Type 0} (n : ℕ) (xs ws : List X) → n ≡ length xs → ws ≡ xs → take n (ws ++ drop (length ws) xs) ≡ xs
refilled n xs ws len same = ap (λ k. take k (ws ++ drop (length ws) xs)) (len ∙ ap length (sym same)) ∙ take-append_seam ws (drop (length ws) xs) ∙ same
