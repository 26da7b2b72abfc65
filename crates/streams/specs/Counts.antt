-- How a count of failures goes on.
use Rattle.std.specs.Prelude.{◌≡◌, ℕ, ◌+◌, ◌-◌, ◌^◌, min, Result, OnOk, OnErr}

-- the last value of a count of failures, at which it stays
abbrev pub last_count : ℕ
last_count = 2 ^ 64 - 1

-- the count is one higher, or stays at its last value
abbrev pub CountRose : ℕ → ℕ → Type 0
CountRose old new = new ≡ min (old + 1) last_count

-- the count rose exactly where the call failed
abbrev pub CountsFailure : {A E : Type 0} → ℕ → ℕ → Result A E → Type 0
CountsFailure old new r = OnOk r (new ≡ old) × OnErr r (CountRose old new)
