-- What a response says.
use Rattle.std.specs.Prelude.{◌≡◌, ℕ, ◌⊎◌, Bool, true, List, Option, Some}
use Rattle.http_framing.specs.Input.{Item}
use Rattle.http_request.specs.declared.extent.Extent.{Extent}
use Rattle.http_request.specs.declared.extent.Extent.TheVariants as extent
use Rattle.http_connection.specs.Turn.{Turn}
use Rattle.http_response.specs.Texts.{no_memory_text, unavailable_text}
use Rattle.http_response.specs.declared.memory.MemoryFor.{MemoryFor}
use Rattle.http_response.specs.declared.memory.MemoryFor.TheVariants as memory_for
use Rattle.http_turns.specs.ResponseText.{after_closing}
use Rattle.session_api.specs.declared.fault.CallFault.{CallFault}
use Rattle.session_api.specs.declared.fault.CallFault.TheVariants as fault
use Rattle.http_turns.specs.declared.response.Sent.{Sent}

-- the turn of an item that has this response, which is written whole
abbrev pub turn_of : Item → Sent → Turn
turn_of item sent = record { item = item; text = sent.response; closes = sent.closes; whole = true }

-- it sends this text
abbrev pub Sends : List ℕ → Bool → Sent → Type 0
Sends text closes sent = (sent.response ≡ text) × (sent.closes ≡ closes)

-- it says that memory was refused, as far as a request of this extent takes that
abbrev pub SaysLost : ℕ → Extent → MemoryFor → Sent → Type 0
SaysLost place extent wanted sent = Sends (no_memory_text place extent wanted) true sent

-- it sends the text that is due, or says that memory for it was refused
abbrev pub SendsDue : Option (List ℕ) → Bool → ℕ → MemoryFor → Sent → Type 0
SendsDue due closes place wanted sent = ((Some sent.response ≡ due) × (sent.closes ≡ closes)) ⊎ SaysLost place extent.Whole wanted sent

-- it says why a call has no answer
abbrev pub SaysFault : ℕ → Bool → CallFault → Sent → Type 0
SaysFault place closes fault.Memory sent = SaysLost place extent.Whole memory_for.Call sent
SaysFault place closes (fault.Unavailable why) sent = Sends (unavailable_text place (after_closing closes) why) closes sent
