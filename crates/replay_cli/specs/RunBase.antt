-- A run of `replay base`, with `--raised` or without.
use Rattle.std.specs.Prelude.{ℕ, Bool, List, codes, ⊤}
use Rattle.streams.specs.Ends.{Ends}
use Rattle.streams.specs.Streams.{Streams}
use Rattle.replay_cli.specs.Run.{Told, Judged, NoMemory, ReadFailed, IsFound, IsOfInput, told_text, told_status}
use Rattle.replay_cli.specs.Successors.{IsLastEpoch, IsRefused, IsSuccessorLine}

-- the first line of what follows, or that nothing can follow, or what a run of `replay check` reports
pub data Given : Type 0 where
  Line : List ℕ → Given
  NoneFollows : Given
  Instead : Told → Given

abbrev pub given_text : Given → List ℕ
given_text (Line line) = line
given_text NoneFollows = codes "no successor\n"
given_text (Instead told) = told_text told

-- the exit status where no write failed
abbrev pub given_status : Given → ℕ
given_status (Line line) = 0
given_status NoneFollows = 6
given_status (Instead told) = told_status told

-- a verdict is reported only where nothing follows
abbrev pub IsInstead : Told → Type 0
IsInstead (Judged v) = IsRefused v
IsInstead NoMemory = ⊤
IsInstead ReadFailed = ⊤

abbrev pub IsGiven : Bool → Streams → Streams → Given → Type 0
IsGiven is_raised before after (Line line) = IsOfInput before after (λ text. IsSuccessorLine is_raised text line)
IsGiven is_raised before after NoneFollows = IsOfInput before after (IsLastEpoch is_raised)
IsGiven is_raised before after (Instead told) = IsFound before after told × IsInstead told

pub record RunsBase (is_raised : Bool) (before after : Streams) (status : ℕ) : Type 0 where
  pub given : Given
  pub is_given : IsGiven is_raised before after given
  pub ends : Ends before.taken after.taken before.failed_writes after.failed_writes (given_text given) (given_status given) status
