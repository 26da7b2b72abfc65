use Rattle.std.proofs.Common.{◌≡◌, drop}
use Rattle.replicator.specs.Readable.{rises_above}
use Rattle.replicator.proofs.readable.rises_above.Given as goal

abbrev pub invariant-loop-row : goal.invariant-loop-row
invariant-loop-row l = rises_above l.fn.since l.rows ≡ rises_above l.last (drop l.row-index l.rows)
