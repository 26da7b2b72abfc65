-- Which lines of a text are those of a dump.
use Rattle.std.specs.Prelude.{◌≡◌, ℕ, zero, suc, ◌+◌, ◌≤◌, List, [], ◌∷◌, ◌++◌, length, Option, ⊤}
use Rattle.model.specs.Command.{Entry}
use Rattle.model.specs.Database.{Database}
use Rattle.history_json.specs.Line.{IsLine}
use Rattle.history_dump.specs.Dump.{first_line, entry_line, IsFirst}
use Rattle.replay_cli.specs.Places.{last_place}

-- the line of an entry at a place
abbrev pub IsLineAt : ℕ → List ℕ → Type 0
IsLineAt place line = (place ≤ last_place) × (entry : Entry) × IsLine entry × (line ≡ entry_line entry)

-- the first line of a first epoch, or of one that names its base
abbrev pub IsFirstLine : List ℕ → Type 0
IsFirstLine line = (base : Option Database) × IsFirst base × (line ≡ first_line base)

-- Lines are counted from 1: the first one reports what the history begins from, and line P + 1 is of the entry at place P.
abbrev pub IsReadable : ℕ → List ℕ → Type 0
IsReadable zero line = ⊥
IsReadable (suc zero) line = IsFirstLine line
IsReadable (suc (suc before)) line = IsLineAt (suc before) line

-- each line is readable, where the first has this number
abbrev pub AreReadable : ℕ → List (List ℕ) → Type 0
AreReadable number [] = ⊤
AreReadable number (line ∷ more) = IsReadable number line × AreReadable (suc number) more

-- of lines that are numbered from `first` on, the one with this number isn't readable, and those before it are
pub record IsFirstUnreadable (first : ℕ) (ls : List (List ℕ)) (number : ℕ) : Type 0 where
  pub before : List (List ℕ)
  pub line : List ℕ
  pub after : List (List ℕ)
  pub lines_are : ls ≡ before ++ line ∷ after
  pub readable : AreReadable first before
  pub unreadable : IsReadable number line → ⊥
  pub number_is : number ≡ first + length before
