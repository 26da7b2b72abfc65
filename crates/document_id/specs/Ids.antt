-- Sets of ids, as the list of their members.
use Rattle.std.specs.Prelude.{List, All}
use Rattle.model.specs.Map.{IsRising}
use Rattle.model.specs.Command.{Id, IsId, names}

-- each once, in the byte order
pub record AreIds (ids : List Id) : Type 0 where
  pub rising : IsRising names ids
  pub each : All IsId ids
