use Rattle.std.proofs.Common.{◌≡◌, ℕ, drop}
use Rattle.model.specs.Revision.{Rev}
use Rattle.revision_tree.specs.Nodes.{entries_of}
use Rattle.tree_merge.specs.Reach.{reach}
use Rattle.tree_merge.proofs.Raised.{marks_by}
use Rattle.tree_merge.proofs.reach.carry.Given as goal

abbrev pub invariant-loop-place : goal.invariant-loop-place
invariant-loop-place l = (g : Rev → ℕ) → l.initial.marks ≡ marks_by g (entries_of l.nodes) → l.marks ≡ marks_by (reach g (drop l.place (entries_of l.nodes))) (entries_of l.nodes)
