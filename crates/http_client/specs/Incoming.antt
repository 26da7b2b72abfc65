-- How a response is read.
use Rattle.std.specs.Prelude.{◌≡◌, ◌⊎◌, ℕ, List, Option, Result, Ok, Err}
use Rattle.std.specs.Io.KnownBytes.{IsAtEnd}
use Rattle.streams.specs.Counts.{CountRose}
use Rattle.http_client.specs.Response.{IsUnfinished, IsUnreadable}
use Rattle.http_client.specs.Front.{IsResponseAt}
use Rattle.http_client.specs.declared.front.ResponseSpans.{ResponseSpans}
use Rattle.http_client.specs.declared.incoming.ResponseFault.{ResponseFault}
use Rattle.http_client.specs.declared.incoming.ResponseFault.TheVariants as fault

-- what was read, of the bytes that have come and of those that are left: a whole response at their front, or why there is none
abbrev pub Reads : List ℕ → Option (List ℕ) → Result ResponseSpans ResponseFault → Type 0
Reads bytes left (Ok spans) = IsResponseAt bytes spans
Reads bytes left (Err fault.Ended) = IsUnfinished bytes × IsAtEnd left
Reads bytes left (Err fault.ReadFailed) = IsUnfinished bytes
Reads bytes left (Err fault.Memory) = IsUnfinished bytes
Reads bytes left (Err fault.Unreadable) = IsUnreadable bytes

-- the count of failed reads rose where a read failed, and else stayed
abbrev pub CountsReads : {A : Type 0} → ℕ → ℕ → Result A ResponseFault → Type 0
CountsReads old new (Err fault.ReadFailed) = CountRose old new
CountsReads old new (Err fault.Ended) = new ≡ old
CountsReads old new (Err fault.Memory) = new ≡ old
CountsReads old new (Err fault.Unreadable) = new ≡ old
CountsReads old new (Ok value) = new ≡ old

-- where the bytes that have come are not unfinished, the reader is not asked for more
abbrev pub ReadsIfUnfinished : {R : Type 0} → List ℕ → List ℕ → R → R → Type 0
ReadsIfUnfinished old new reader reader' = IsUnfinished old ⊎ ((new ≡ old) × (reader' ≡ reader))
