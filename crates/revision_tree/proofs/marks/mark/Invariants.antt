use Rattle.std.proofs.Common.{◌≡◌, take}
use Rattle.revision_tree.specs.Nodes.{entries_of, marked_by}
use Rattle.revision_tree.proofs.marks.mark.Given as goal

abbrev pub invariant-loop-place : goal.invariant-loop-place
invariant-loop-place l = l.nodes ≡ marked_by (take l.place (entries_of l.fn.nodes)) l.fn.nodes
