-- So far the documents that were walked over are taken over.
use Rattle.std.proofs.Common.{◌≡◌, ◌+◌, map, length}
use Rattle.std.specs.Map.Iter.{deref_pair}
use Rattle.model.specs.History.{now}
use Rattle.snapshots.specs.Taken.{taken_all, IsCoherent}
use Rattle.compactor.specs.Copy.{last_id}
use Rattle.compactor.proofs.slices.sliced.Given as goal

abbrev pub invariant-loop-id : goal.invariant-loop-id
invariant-loop-id l = record {
  taken : l.records ≡ record l.fn.part.records { docs = taken_all l.fn.part.records.docs (now l.version) (map (λ e. e.0) (map deref_pair l.yielded)) };
  last : l.last ≡ last_id l.fn.part.last (map (λ e. e.0) (map deref_pair l.yielded));
  coherent : IsCoherent l.records.docs (now l.version);
  visits : l.visited ≡ l.initial.visited + length l.yielded;
}
