-- So far the documents that were put.
use Rattle.std.proofs.Common.{◌≡◌}
use Rattle.model.specs.Map.{entries}
use Rattle.snapshots.proofs.records.listed.numbered.Given as goal

abbrev pub invariant-loop-id : goal.invariant-loop-id
invariant-loop-id l = record {
  docs : entries l.records.docs ≡ l.yielded;
  seq : l.records.update_seq ≡ l.update_seq;
}
