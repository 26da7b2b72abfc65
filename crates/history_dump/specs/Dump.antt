-- The text of a dump.
use Rattle.std.specs.Prelude.{◌≡◌, ℕ, List, [], ◌++◌, codes, Option, Some, None, ⊤}
use Rattle.std.specs.List.{flat_map}
use Rattle.model.specs.Command.{Entry}
use Rattle.model.specs.Database.{Database}
use Rattle.model.specs.History.{Chronicle, IsBase}
use Rattle.history_json.specs.Line.{line_text}
use Rattle.base_json.specs.Base.{base_text}

-- the first line without its line feed: of a first epoch `{"couch_history":1}`, of a later one the text of its base
abbrev pub first_text : Option Database → List ℕ
first_text None = codes "{\"couch_history\":1}"
first_text (Some base) = base_text base

abbrev pub first_line : Option Database → List ℕ
first_line base = first_text base ++ codes "\n"

-- what a first line may name
abbrev pub IsFirst : Option Database → Type 0
IsFirst None = ⊤
IsFirst (Some base) = IsBase base

-- the version has no entries, over what the line names
pub record BeginsAt (line : List ℕ) (v : Chronicle) : Type 0 where
  pub entries : v.entries ≡ []
  pub first : IsFirst v.base
  pub line_is : line ≡ first_line v.base

-- the line of an entry and a line feed
abbrev pub entry_line : Entry → List ℕ
entry_line e = line_text e ++ codes "\n"

-- the first line, and the line of each entry in order
abbrev pub dump_text : Chronicle → List ℕ
dump_text h = first_line h.base ++ flat_map entry_line h.entries
