-- How many commands each session has made, where the number of the session that made the last is beside a map.
use Rattle.std.specs.Prelude.{ℕ, List, Option, Some, None}
use Rattle.model.specs.Map.{Map, from_list, put}
use Rattle.model.specs.Command.{numbers}
use Rattle.snapshots.specs.declared.database.calls.Caller.{Caller}

abbrev pub calls_in : Option Caller → List (ℕ × ℕ) → Map numbers ℕ
calls_in None es = from_list es
calls_in (Some c) es = put (from_list es) c.session c.calls
