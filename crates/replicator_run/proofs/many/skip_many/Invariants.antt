use Rattle.std.proofs.Common.{◌≡◌, map, take, drop, ◌++◌}
use Rattle.replicator_run.specs.Skipped.{without_many}
use Rattle.replicator_run.proofs.many.skip_many.Given as goal

abbrev pub invariant-loop-row : goal.invariant-loop-row
invariant-loop-row g l = l.rows ≡ map without_many (take l.row-index l.initial.rows) ++ drop l.row-index l.initial.rows
