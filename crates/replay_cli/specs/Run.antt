-- A run of `replay check`.
use Rattle.std.specs.Prelude.{◌≡◌, ℕ, List, [], ◌++◌, codes, decimal}
use Rattle.std.specs.Io.KnownBytes.{Consumes, IsAtEnd}
use Rattle.streams.specs.Counts.{CountRose}
use Rattle.streams.specs.Ends.{Ends}
use Rattle.streams.specs.Streams.{Streams}
use Rattle.replay_cli.specs.Verdicts.{IsVerdict}
use Rattle.replay_cli.specs.declared.verdict.Verdict.{Verdict}
use Rattle.replay_cli.specs.declared.verdict.Verdict.TheVariants as verdict

-- what a verdict is called
abbrev pub verdict_text : Verdict → List ℕ
verdict_text (verdict.Legal places) = codes "legal " ++ decimal places
verdict_text (verdict.WrongAt place) = codes "wrong at " ++ decimal place
verdict_text (verdict.UnreadableLine number) = codes "unreadable line " ++ decimal number

abbrev pub verdict_status : Verdict → ℕ
verdict_status (verdict.Legal places) = 0
verdict_status (verdict.WrongAt place) = 2
verdict_status (verdict.UnreadableLine number) = 3

-- what a run reports
pub data Told : Type 0 where
  Judged : Verdict → Told
  NoMemory : Told
  ReadFailed : Told

-- in one line, or in none where a read failed
abbrev pub told_text : Told → List ℕ
told_text (Judged v) = verdict_text v ++ codes "\n"
told_text NoMemory = codes "no memory\n"
told_text ReadFailed = []

-- the exit status where no write failed
abbrev pub told_status : Told → ℕ
told_status (Judged v) = verdict_status v
told_status NoMemory = 4
told_status ReadFailed = 1

-- this holds of all of the input, and no read failed
abbrev pub IsOfInput : Streams → Streams → (List ℕ → Type 0) → Type 0
IsOfInput before after holds =
    ((text : List ℕ) × Consumes before.left after.left text × holds text) × IsAtEnd after.left × (after.failed_reads ≡ before.failed_reads)

-- A verdict is the one on all of the input.
abbrev pub IsFound : Streams → Streams → Told → Type 0
IsFound before after (Judged v) = IsOfInput before after (λ text. IsVerdict text v)
IsFound before after NoMemory = after.failed_reads ≡ before.failed_reads
IsFound before after ReadFailed = CountRose before.failed_reads after.failed_reads

pub record RunsCheck (before after : Streams) (status : ℕ) : Type 0 where
  pub told : Told
  pub found : IsFound before after told
  pub ends : Ends before.taken after.taken before.failed_writes after.failed_writes (told_text told) (told_status told) status
