use Rattle.std.proofs.Common.{T}
use Rattle.std.specs.declared.cmp.Ordering.TheVariants.{Greater}
use Rattle.std.specs.FinMap.Entries.{is_sorted}
use Rattle.cow_index.specs.Entries.{EachCompares}
use Rattle.cow_index.proofs.tree.Tree.is_below.Given as goal

abbrev pub invariant-loop-node : goal.invariant-loop-node
invariant-loop-node g l = T (is_sorted g.K.Ord.cmp l.at.0) × (EachCompares g.K.Ord.cmp l.key Greater l.at.0 → EachCompares g.K.Ord.cmp l.key Greater l.self.0)
