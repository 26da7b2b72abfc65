use Rattle.std.proofs.Common.{◌≡◌, drop}
use Rattle.replicator.specs.Readable.{last_number}
use Rattle.replicator_run.proofs.many.last_number.Given as goal

abbrev pub invariant-loop-row : goal.invariant-loop-row
invariant-loop-row l = last_number 0 l.rows ≡ last_number l.last (drop l.row-index l.rows)
