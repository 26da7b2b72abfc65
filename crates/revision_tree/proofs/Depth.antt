-- A stem keeps all where the generations of a tree are fewer than the limit.
use Rattle.std.specs.Prelude.{◌≡◌, ℕ, ◌+◌, ◌<◌, ◌≤◌, true, refl}
use Rattle.std.proofs.Common.{arith}
use Rattle.model.specs.Revision.{Rev}
use Rattle.model.specs.Tree.{Tree, IsTree, IsNear, knows}
use Rattle.model.specs.TreeChange.{stem}
use Rattle.model.proofs.TreeLaws.{leaf_known}
use Rattle.model.proofs.ReachLaws.{known_reached}
use Rattle.model.proofs.RestrictLaws.{whole_restriction}
use Rattle.model.proofs.StemLaws.{near_known, stem-restriction}

module _ (t : Tree) (tree : IsTree t) (limit : ℕ) (oldest newest : Rev) (low : (r : Rev) → knows t r ≡ true → oldest.generation ≤ r.generation)
    (high : (r : Rev) → knows t r ≡ true → r.generation ≤ newest.generation) (few : newest.generation < oldest.generation + limit) where
  near : (r : Rev) → knows t r ≡ true → IsNear limit t r
  near r k =
      let g = known_reached t tree.forest r k in
      record { leaf = g.leaf; at_leaf = g.at_leaf; steps = g.steps; few = omega (arith, few, g.allowed, low r k, high g.leaf (leaf_known t g.leaf g.at_leaf)); leads = g.leads }

  pub stem_all : stem limit t ≡ t
  stem_all = whole_restriction (IsNear limit t) t (stem limit t) ((stem-restriction limit t tree.forest (stem limit t)).0 refl) tree.forest (λ r. (near r, near_known limit t tree.forest r))
