-- What a run of a walk yields.
use Rattle.std.proofs.Common.{length, ap}
use Rattle.std.proofs.iter.runs.Sources.{from_front}
use Rattle.std.specs.Map.Iter.{TakesFirst, ShowsInOrder, deref_pair}

pub shows_in_order : {K V : Type 0} → ShowsInOrder (deref_pair {K = K} {X = V})
shows_in_order = from_front (TakesFirst deref_pair) deref_pair (λ s. s) (λ s t h. ap length h.0) (λ s x t h. h)
