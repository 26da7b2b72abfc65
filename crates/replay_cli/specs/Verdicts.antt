-- What an audit of a text says.
use Rattle.std.specs.Prelude.{◌≡◌, ℕ, ◌≤◌, List, length, All, Option}
use Rattle.model.specs.Command.{Entry}
use Rattle.model.specs.Database.{Database}
use Rattle.model.specs.History.{Chronicle, IsLegal, base_of}
use Rattle.history_json.specs.Line.{IsLine}
use Rattle.history_dump.specs.Dump.{dump_text, IsFirst}
use Rattle.replay_cli.specs.Lines.{lines_or_one}
use Rattle.replay_cli.specs.Places.{last_place, IsFirstWrong}
use Rattle.replay_cli.specs.Readable.{IsFirstUnreadable}
use Rattle.replay_cli.specs.declared.verdict.Verdict.{Verdict}
use Rattle.replay_cli.specs.declared.verdict.Verdict.TheVariants as verdict

-- the history of these entries
abbrev pub begun_with : Option Database → List Entry → Chronicle
begun_with base entries = record { base = base; entries = entries }

-- the text is the dump of this history, whose base can be one, and whose entries keep the limits and have places
pub record IsDump (text : List ℕ) (history : Chronicle) : Type 0 where
  pub text_is : text ≡ dump_text history
  pub first : IsFirst history.base
  pub within : All IsLine history.entries
  pub places : length history.entries ≤ last_place

-- the text is the dump of a legal history of so many entries
pub record IsLegalDump (text : List ℕ) (places : ℕ) : Type 0 where
  pub history : Chronicle
  pub dump : IsDump text history
  pub legal : IsLegal (base_of history.base) history.entries
  pub places_are : places ≡ length history.entries

-- the text is the dump of entries of which the one at this place is the first that is wrong
pub record IsWrongDump (text : List ℕ) (place : ℕ) : Type 0 where
  pub history : Chronicle
  pub dump : IsDump text history
  pub wrong : IsFirstWrong (base_of history.base) history.entries place

-- the text is no dump: this is the number of the first line that can't be read
abbrev pub IsUnreadable : List ℕ → ℕ → Type 0
IsUnreadable text number = IsFirstUnreadable 1 (lines_or_one text) number

abbrev pub IsVerdict : List ℕ → Verdict → Type 0
IsVerdict text (verdict.Legal places) = IsLegalDump text places
IsVerdict text (verdict.WrongAt place) = IsWrongDump text place
IsVerdict text (verdict.UnreadableLine number) = IsUnreadable text number
