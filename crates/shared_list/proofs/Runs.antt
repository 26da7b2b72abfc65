-- What a run of a walk yields.
use Rattle.std.proofs.Common.{length, ap}
use Rattle.std.proofs.iter.runs.Sources.{from_front}
use Rattle.std.specs.Map.Iter.{TakesFirst, ShowsInOrder, deref}

pub shows_in_order : {X : Type 0} → ShowsInOrder (deref {X = X})
shows_in_order = from_front (TakesFirst deref) deref (λ s. s) (λ s t h. ap length h.0) (λ s x t h. h)
