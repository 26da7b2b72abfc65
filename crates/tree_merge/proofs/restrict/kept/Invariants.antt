use Rattle.std.proofs.Common.{◌≡◌, ℕ, take}
use Rattle.std.specs.Prelude.{nat_lt}
use Rattle.model.specs.Map.{refine_list}
use Rattle.model.specs.Revision.{Rev, revs}
use Rattle.revision_tree.specs.Nodes.{entries_of}
use Rattle.tree_merge.specs.Reach.{kept_of}
use Rattle.tree_merge.proofs.Raised.{marks_by}
use Rattle.tree_merge.proofs.restrict.kept.Given as goal

abbrev pub invariant-loop-node : goal.invariant-loop-node
invariant-loop-node l = (g : Rev → ℕ) → l.marks ≡ marks_by g (entries_of l.nodes) → entries_of l.kept.items ≡ refine_list revs (kept_of (λ r. nat_lt 0 (g r))) (entries_of (take l.node-index l.nodes))
