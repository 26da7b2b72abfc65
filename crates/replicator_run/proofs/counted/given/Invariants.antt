use Rattle.std.proofs.Common.{◌≡◌, ◌≤◌, length, take}
use Rattle.replicator.specs.Wanted.{given_in}
use Rattle.replicator_run.proofs.counted.given.Given as goal

abbrev pub invariant-loop-revision : goal.invariant-loop-revision
invariant-loop-revision l = record {
  given : l.given ≡ length (given_in (take l.revision-index l.revisions));
  within : l.given ≤ l.revision-index;
}
