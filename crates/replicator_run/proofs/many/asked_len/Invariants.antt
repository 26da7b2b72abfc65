use Rattle.std.proofs.Common.{◌≡◌, ◌≤◌, length, take}
use Rattle.replicator_run.specs.Skipped.{leaves_in, max_of_more}
use Rattle.replicator_run.proofs.many.asked_len.Given as goal

abbrev pub invariant-loop-row : goal.invariant-loop-row
invariant-loop-row l = record {
  len : l.len ≡ l.row-index;
  leaves : l.leaves ≡ length (leaves_in (take l.row-index l.rows));
  within : l.leaves ≤ max_of_more;
}
