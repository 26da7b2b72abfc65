-- A map as its callers see it.
use Rattle.std.specs.Prelude.{ℕ, List}

pub record MapView (K V : Type 0) : Type 0 where
  -- in the order of the keys
  pub entries : List (K × V)
  pub height : ℕ
  -- by the call that made this map
  pub nodes_made : ℕ
