-- What a window holds.
use Rattle.std.specs.Prelude.{ℕ, List}

-- the bytes that have come and were not taken, and how many more fit behind them
pub record Kept : Type 0 where
  pub bytes : List ℕ
  pub room : ℕ
