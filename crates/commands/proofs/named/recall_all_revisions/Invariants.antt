use Rattle.std.proofs.Common.{All, take}
use Rattle.model.specs.Revision.{IsRev}
use Rattle.commands.proofs.named.recall_all_revisions.Given as goal

abbrev pub invariant-loop-rev : goal.invariant-loop-rev
invariant-loop-rev l = All IsRev (take l.rev-index l.revisions)
