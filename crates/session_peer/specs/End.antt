-- What is known of an end.
use Rattle.std.specs.Prelude.{ℕ}

-- its session, and how many of its calls have failed
pub record End (S : Type 0) : Type 0 where
  pub session : S
  pub failures : ℕ
