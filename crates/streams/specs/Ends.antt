-- How a program's output ends.
use Rattle.std.specs.Prelude.{◌≡◌, ◌⊎◌, ℕ, ◌<◌, List, length, take, Option}
use Rattle.std.specs.Io.KnownBytes.{Appends}
use Rattle.streams.specs.Counts.{CountRose}

-- The text was written, and the status is the one that it wants; or else a write failed after a part of it, and the
-- status is 1. The writer's bytes and its count of failures are those before and after.
abbrev pub Ends : Option (List ℕ) → Option (List ℕ) → ℕ → ℕ → List ℕ → ℕ → ℕ → Type 0
Ends old new failed_old failed_new text right status =
    (Appends old new text × (failed_new ≡ failed_old) × (status ≡ right))
    ⊎ (((n : ℕ) × (n < length text) × Appends old new (take n text)) × CountRose failed_old failed_new × (status ≡ 1))
