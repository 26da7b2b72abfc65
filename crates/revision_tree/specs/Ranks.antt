-- Leaves in the winner's order.
use Rattle.std.specs.Prelude.{◌≡◌, ◌↔◌, true, false, Bool, List, Contains, is_some}
use Rattle.std.specs.declared.cmp.Ordering.{Ordering}
use Rattle.std.specs.Ordering.{bool_cmp, then_cmp, flip_args, on}
use Rattle.std.specs.Cmp.{IsTotalOrder, on_total, then_total, back_total, bool_cmp_total}
use Rattle.std.specs.FinMap.{IsAntisymmetric}
use Rattle.std.specs.FinMap.Entries.{find}
use Rattle.std.proofs.Common.{ap}
use Rattle.model.specs.Revision.{Rev, rev_cmp, rev_total}
use Rattle.model.specs.Tree.{Tree, Leaf, IsLeafOf, leaf_exact}
use Rattle.revision_tree.specs.declared.node.Node.{Node}
use Rattle.revision_tree.specs.declared.rank.Rank.{Rank}

abbrev pub leaf_of : Rank → Leaf
leaf_of k = record { deleted = k.deleted; rev = k.rev }

abbrev pub rank_cmp : Rank → Rank → Ordering
rank_cmp = then_cmp (on (λ k. k.deleted) bool_cmp) (flip_args (on (λ k. k.rev) rev_cmp))

pub rank_total : IsTotalOrder rank_cmp
rank_total = then_total (on_total (λ k. k.deleted) bool_cmp_total) (back_total (on_total (λ k. k.rev) rev_total))

pub rank_exact : IsAntisymmetric rank_cmp
rank_exact a b e = ap (λ (l : Leaf). record { deleted = l.deleted; rev = l.rev }) (leaf_exact (leaf_of a) (leaf_of b) e)

-- just the leaves of t are there
pub record AreLeaves (t : Tree) (es : List (Rank × Unit {0})) : Type 0 where
  pub has : (k : Rank) → (is_some (find rank_cmp k es) ≡ true) ↔ IsLeafOf t (leaf_of k)

-- just those of them that aren't gone
pub record AreLeft (t : Tree) (gone : Rev → Bool) (es : List (Rank × Unit {0})) : Type 0 where
  pub has : (k : Rank) → (is_some (find rank_cmp k es) ≡ true) ↔ (IsLeafOf t (leaf_of k) × (gone k.rev ≡ false))

-- it is the rank of one of these nodes, which isn't marked as a parent
pub record IsOuterOf (ns : List Node) (k : Rank) : Type 0 where
  pub node : Node
  pub listed : Contains ns node
  pub outer : node.inner ≡ false
  pub deleted : node.deleted ≡ k.deleted
  pub rev : node.rev ≡ k.rev

-- just the ranks of those of these nodes are there
pub record AreOuter (ns : List Node) (es : List (Rank × Unit {0})) : Type 0 where
  pub has : (k : Rank) → (is_some (find rank_cmp k es) ≡ true) ↔ IsOuterOf ns k
