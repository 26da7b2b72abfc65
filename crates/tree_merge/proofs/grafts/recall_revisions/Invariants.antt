use Rattle.std.proofs.Common.{take}
use Rattle.std.specs.Prelude.{All}
use Rattle.model.specs.Revision.{IsRev}
use Rattle.tree_merge.proofs.grafts.recall_revisions.Given as goal

abbrev pub invariant-loop-rev : goal.invariant-loop-rev
invariant-loop-rev l = All IsRev (take l.rev-index l.path)
