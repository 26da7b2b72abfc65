-- So far each is.
use Rattle.std.proofs.Common.{All, take}
use Rattle.model.specs.Database.{IsRecord}
use Rattle.snapshots.proofs.records.listed.recall_all.Given as goal

abbrev pub invariant-loop-id : goal.invariant-loop-id
invariant-loop-id l = All (λ d. IsRecord d.0 d.1) (take l.id-index l.documents)
