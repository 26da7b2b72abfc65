-- The options of `couchd serve` for its journal.
use Rattle.std.specs.Prelude.{◌≡◌, ◌≤◌, ◌↔◌, ℕ, List, Option, None, Some, codes, string_bytes, true}
use Rattle.clap.specs.Words.{App, Row, Text, with_rule, first_of}
use Rattle.command_line.specs.Flags.{flag}
use Rattle.command_line.specs.Numbers.{optional_number, IsNumber}
use Rattle.command_line.specs.Texts.{optional_text}
use Rattle.command_line.specs.declared.journal.JournalOptions.{JournalOptions}
use Rattle.command_line.specs.declared.journal.SyncPolicy.{SyncPolicy}
use Rattle.command_line.specs.declared.journal.SyncPolicy.TheVariants.{Always, EverySecond, Never}

-- the command with these options
abbrev pub with_journal : App → App
with_journal app =
    with_rule (with_rule (with_rule (with_rule app
    (optional_text (codes "data")))
    (optional_text (codes "sync")))
    (optional_number (codes "keep") 1 4294967295))
    (flag (codes "read-only"))

-- what `--sync` calls it
abbrev pub name_of : SyncPolicy → Text
name_of Always = codes "always"
name_of EverySecond = codes "second"
name_of Never = codes "never"

-- it is the one of this name, or that of each second where no name is given
abbrev pub IsSyncOf : Option Text → SyncPolicy → Type 0
IsSyncOf None sync = sync ≡ EverySecond
IsSyncOf (Some name) sync = name ≡ name_of sync

-- the text says how many files stay, at least one, or all do
abbrev pub IsKeepOf : Option Text → Option ℕ → Type 0
IsKeepOf None keep = keep ≡ None
IsKeepOf (Some text) None = ⊥
IsKeepOf (Some text) (Some files) = IsNumber text files × (1 ≤ files) × (files ≤ 4294967295)

-- `clap` has this text for a flag that was given
abbrev pub IsGiven : Option Text → Type 0
IsGiven text = text ≡ Some (codes "true")

-- the journal has this folder, and what these texts say
pub record IsJournalIn (folder : Text) (sync keep read_only : Option Text) (journal : JournalOptions) : Type 0 where
  pub folder_is : string_bytes journal.folder ≡ folder
  pub sync_is : IsSyncOf sync journal.sync
  pub keep_is : IsKeepOf keep journal.keep
  pub read_only_is : (journal.read_only ≡ true) ↔ IsGiven read_only

-- where there is no folder, there is no journal, and nothing is said of one
abbrev pub IsJournalBy : Option Text → Option Text → Option Text → Option Text → Option JournalOptions → Type 0
IsJournalBy None sync keep read_only journal = (journal ≡ None) × (sync ≡ None) × (keep ≡ None) × (IsGiven read_only → ⊥)
IsJournalBy (Some folder) sync keep read_only None = ⊥
IsJournalBy (Some folder) sync keep read_only (Some journal) = IsJournalIn folder sync keep read_only journal

-- it is the one that the arguments give, if they give one
abbrev pub IsJournalOf : List Row → Option JournalOptions → Type 0
IsJournalOf given =
    IsJournalBy (first_of (codes "data") given) (first_of (codes "sync") given) (first_of (codes "keep") given)
    (first_of (codes "read-only") given)
