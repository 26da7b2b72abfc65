-- How lines are read.
use Rattle.std.specs.Prelude.{◌≡◌, ℕ, List}
use Rattle.model.specs.Command.{Entry}
use Rattle.history_json.specs.Line.{IsLine}
use Rattle.history_dump.specs.Dump.{entry_line}

-- the line is that of an entry that keeps the limits, and of no other
pub record IsRead (line : List ℕ) (entry : Entry) : Type 0 where
  pub within : IsLine entry
  pub line_is : line ≡ entry_line entry
  pub only : (other : Entry) → IsLine other → line ≡ entry_line other → other ≡ entry
