use Rattle.std.proofs.Common.{◌≡◌, ◌++◌}
use Rattle.replicator.specs.Wanted.{absent_in, given_in}
use Rattle.replicator.proofs.wanted.add_opened.Given as goal

abbrev pub invariant-loop-revision : goal.invariant-loop-revision
invariant-loop-revision l = record {
  given : l.given.items ≡ l.fn.given.items ++ given_in l.yielded;
  absent : l.absent.items ≡ l.fn.absent.items ++ absent_in l.id l.yielded;
}
