-- So far each is.
use Rattle.std.proofs.Common.{All, take}
use Rattle.model.specs.Revision.{IsRev}
use Rattle.purge.proofs.purged.recall_all.Given as goal

abbrev pub invariant-loop-rev : goal.invariant-loop-rev
invariant-loop-rev l = All IsRev (take l.rev-index l.revs)
