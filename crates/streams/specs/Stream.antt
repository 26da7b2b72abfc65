-- What a counted reader or writer of std holds.
use Rattle.std.specs.Prelude.{ℕ, ◌<◌, ◌^◌}
use Rattle.streams.specs.declared.counted.Stream.{Stream}

-- the reader or writer
abbrev pub inner_of : {T : Type 0} → Stream T → T
inner_of stream = stream.inner

-- how many of its calls have failed
abbrev pub failures_of : {T : Type 0} → Stream T → ℕ
failures_of stream = stream.failures

-- how many more bytes it gives
abbrev pub budget_of : {T : Type 0} → Stream T → ℕ
budget_of stream = stream.budget

-- which 64 bits count
abbrev pub is_countable : {T : Type 0} (stream : Stream T) → budget_of stream < 2 ^ 64
is_countable stream = stream.countable
