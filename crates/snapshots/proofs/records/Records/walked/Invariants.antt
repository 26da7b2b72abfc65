-- So far the wanted ones of those that were walked over.
use Rattle.std.proofs.Common.{◌≡◌, ℕ, map, filter, Some}
use Rattle.std.specs.Map.Iter.{deref_pair}
use Rattle.model.specs.Command.{Id}
use Rattle.model.specs.Database.{Record}
use Rattle.model.specs.Changes.{wanted_by}
use Rattle.snapshots.proofs.records.Records.walked.Given as goal

abbrev pub invariant-loop-seq : goal.invariant-loop-seq
invariant-loop-seq l = l.changed.entries ≡ filter (λ (e : ℕ × (Id × Record)). wanted_by (Some l.ids) e.1.0) (map deref_pair l.yielded)
