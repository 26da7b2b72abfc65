-- So far as many as were wanted of those that were walked over.
use Rattle.std.proofs.Common.{◌≡◌, ◌≤◌, ℕ, length, map, filter, Some}
use Rattle.std.specs.Map.Iter.{deref_pair}
use Rattle.model.specs.Command.{Id}
use Rattle.model.specs.Database.{Record}
use Rattle.model.specs.Changes.{wanted_by}
use Rattle.snapshots.proofs.records.Records.count_walked.Given as goal

abbrev pub invariant-loop-seq : goal.invariant-loop-seq
invariant-loop-seq l = record {
  counted : l.count ≡ length (filter (λ (e : ℕ × (Id × Record)). wanted_by (Some l.ids) e.1.0) (map deref_pair l.yielded));
  few : l.count ≤ length l.yielded;
}
