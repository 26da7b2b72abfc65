-- A list as its callers see it.
use Rattle.std.specs.Prelude.{ℕ, List}

pub record ListView (T : Type 0) : Type 0 where
  -- in the order of pushing
  pub values : List T
  -- by the call that made this list
  pub nodes_made : ℕ
