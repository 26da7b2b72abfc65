-- So far each is.
use Rattle.std.proofs.Common.{All, take}
use Rattle.model.specs.PurgeLog.{IsPurgeInfo}
use Rattle.purge.specs.Log.{info_of}
use Rattle.purge.proofs.log.listed.are_purges.Given as goal

abbrev pub invariant-loop-entry : goal.invariant-loop-entry
invariant-loop-entry l = All (λ p. IsPurgeInfo (info_of p)) (take l.entry-index l.purges)
