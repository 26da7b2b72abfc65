-- What a write of many bytes leaves.
use Rattle.std.specs.Prelude.{ℕ, ◌<◌, List, length, take, Option, Result, OnOk, OnErr}
use Rattle.std.specs.Io.KnownBytes.{Appends}

-- known bytes grow by all of bs where the call succeeds, and by a beginning of bs, not all, where it fails
abbrev pub Writes : {A E : Type 0} → Option (List ℕ) → Option (List ℕ) → Result A E → List ℕ → Type 0
Writes old new r bs = OnOk r (Appends old new bs) × OnErr r ((n : ℕ) × (n < length bs) × Appends old new (take n bs))
