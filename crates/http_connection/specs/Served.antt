-- How the requests of a connection were served.
use Rattle.std.specs.Prelude.{◌≡◌, ℕ, ◌<◌, List, [], ◌++◌, length, take, Option, None, Some, IsNone, IsSome, IfSome, IsFalse}
use Rattle.std.specs.List.{FoldsTo}
use Rattle.std.specs.Io.KnownBytes.{Consumes, Appends, IsAtEnd}
use Rattle.streams.specs.Counts.{CountRose}
use Rattle.streams.specs.Streams.{Streams}
use Rattle.http_framing.specs.Input.{Splits, IsUnfinished}
use Rattle.http_connection.specs.Turn.{Turn, all_turns, items_of, responses_of, AreWhole, GoesOn, ClosesAtLast}
use Rattle.http_connection.specs.declared.outcome.Ended.{Ended}
use Rattle.http_connection.specs.declared.outcome.Cause.{Cause}
use Rattle.http_connection.specs.declared.outcome.Cause.TheVariants as cause

-- the count of failed reads rose where a read ended the connection, and else stayed
abbrev pub CountsReads : Cause → ℕ → ℕ → Type 0
CountsReads cause.ReadFault old new = CountRose old new
CountsReads _ old new = new ≡ old

-- the count of failed writes rose where a write ended the connection, and else stayed
abbrev pub CountsWrites : Cause → ℕ → ℕ → Type 0
CountsWrites cause.WriteFault old new = CountRose old new
CountsWrites _ old new = new ≡ old

-- the input ended with this rest
abbrev pub EndsInput : Cause → List ℕ → Type 0
EndsInput cause.AtEnd rest = rest ≡ []
EndsInput cause.InRequest rest = 0 < length rest
EndsInput _ rest = ⊥

-- what was written of a response that was cut: a beginning of it, and not all
abbrev pub IsPartOf : Option Turn → List ℕ → Type 0
IsPartOf None part = part ≡ []
IsPartOf (Some turn) part = (n : ℕ) × (n < length turn.text) × (part ≡ take n turn.text)

-- what each cause says of the turns, of the one whose response was cut, of the rest, and of the bytes that are left
abbrev pub EndsBy : Cause → List Turn → Option Turn → List ℕ → Option (List ℕ) → Type 0
EndsBy cause.AtEnd turns cut rest left = GoesOn turns × IsNone cut × (rest ≡ []) × IsAtEnd left
EndsBy cause.InRequest turns cut rest left = GoesOn turns × IsNone cut × (0 < length rest) × IsUnfinished rest × IsAtEnd left
EndsBy cause.Closed turns cut rest left = ClosesAtLast turns × IsNone cut
EndsBy cause.ReadFault turns cut rest left = GoesOn turns × IsNone cut × IsUnfinished rest
EndsBy cause.WriteFault turns cut rest left = GoesOn turns × IsSome cut
EndsBy cause.Memory turns cut rest left = (turns ≡ []) × IsNone cut × (rest ≡ [])

-- A connection was served: what was read is the items of all turns and a rest, and what was written is the responses
-- of the turns in order, with a part of the one that was cut.
pub record Served {T : Type 0} (answers : T → Turn → T → Type 0) (before after : Streams) (old new : T) (ended : Ended) : Type 0 where
  pub read : List ℕ
  pub turns : List Turn
  pub cut : Option Turn
  pub rest : List ℕ
  pub part : List ℕ
  pub reads : Consumes before.left after.left read
  pub splits : Splits read (items_of (all_turns turns cut)) rest
  pub runs : FoldsTo answers old (all_turns turns cut) new
  pub whole : AreWhole turns
  pub not_whole : IfSome cut (λ turn. IsFalse turn.whole)
  pub writes : Appends before.taken after.taken (responses_of turns ++ part)
  pub is_part : IsPartOf cut part
  pub answered : ended.answered ≡ length turns
  pub ends : EndsBy ended.cause turns cut rest after.left
  pub failed_reads : CountsReads ended.cause before.failed_reads after.failed_reads
  pub failed_writes : CountsWrites ended.cause before.failed_writes after.failed_writes
