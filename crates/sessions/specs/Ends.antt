-- What the last history says of a session.
use Rattle.std.specs.Prelude.{◌≡◌, Bool, false, ◌||◌, not, ◌==◌, List, length}
use Rattle.model.specs.Command.{Entry}
use Rattle.model.specs.History.{of_session}
use Rattle.sessions.specs.Known.{Known}

-- a call of the session was answered lost, or its entries in the history are not as many as its receipts
abbrev pub is_lost : List Entry → Known → Bool
is_lost h k = k.lost || not (length (of_session k.number h) == length k.receipts)

-- where it is not lost, the history has exactly its entries with a receipt
abbrev pub IsExact : List Entry → Known → Type 0
IsExact h k = is_lost h k ≡ false → of_session k.number h ≡ k.receipts
