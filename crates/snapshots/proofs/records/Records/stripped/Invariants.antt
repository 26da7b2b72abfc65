-- So far the strips of the documents that were walked over.
use Rattle.std.proofs.Common.{◌≡◌, map}
use Rattle.std.specs.Map.Iter.{deref_pair}
use Rattle.model.specs.Map.{empty}
use Rattle.snapshots.specs.Listing.{database_of}
use Rattle.snapshots.specs.Taken.{taken_all, IsCoherent}
use Rattle.snapshots.proofs.records.Records.stripped.Given as goal

abbrev pub invariant-loop-id : goal.invariant-loop-id
invariant-loop-id l = record {
  docs : l.copied.docs ≡ taken_all empty (database_of l.self) (map (λ e. e.0) (map deref_pair l.yielded));
  seq : l.copied.update_seq ≡ l.self.update_seq;
  coherent : IsCoherent l.copied.docs (database_of l.self);
}
