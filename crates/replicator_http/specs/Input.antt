-- What an exchange has of the whole input, however it is cut into pieces.
use Rattle.std.specs.Prelude.{◌≡◌, ℕ, List, Option, None, Some, Result, Ok, Err}
use Rattle.std.specs.Io.KnownBytes.{prepend_known}
use Rattle.http_client.specs.Response.{BeginsWithResponse, IsUnfinished, IsUnreadable, Response}
use Rattle.http_client.specs.declared.incoming.ResponseFault.{ResponseFault}
use Rattle.http_client.specs.declared.incoming.ResponseFault.TheVariants as response
use Rattle.replicator_http.specs.Connection.{Connection, Exchange, Unmade, GivenUp, Cut, Unanswered, Answered}

-- the input that was not taken: what has come, and what is left to be read, where that is known
abbrev pub input_of : Connection → Option (List ℕ)
input_of c = prepend_known c.come c.left

-- what the input decides of an exchange; nothing where it was not asked, a read failed or memory was refused
abbrev pub outcome_of : Exchange → Option (Result Response ResponseFault)
outcome_of Unmade = None
outcome_of (GivenUp why) = None
outcome_of Cut = None
outcome_of (Unanswered come response.Ended) = Some (Err response.Ended)
outcome_of (Unanswered come response.Unreadable) = Some (Err response.Unreadable)
outcome_of (Unanswered come response.ReadFailed) = None
outcome_of (Unanswered come response.Memory) = None
outcome_of (Answered response behind) = Some (Ok response)

-- The input has this outcome and this is what an exchange leaves of it: all behind the response that the input begins
-- with, or the whole, where it is a part of a response or unreadable, or decides nothing.
abbrev pub Decides : List ℕ → Option (Result Response ResponseFault) → Option (List ℕ) → Type 0
Decides input None after = after ≡ Some input
Decides input (Some (Ok response)) after = (rest : List ℕ) × BeginsWithResponse input response rest × (after ≡ Some rest)
Decides input (Some (Err response.Ended)) after = IsUnfinished input × (after ≡ Some input)
Decides input (Some (Err response.Unreadable)) after = IsUnreadable input × (after ≡ Some input)
Decides input (Some (Err response.ReadFailed)) after = ⊥
Decides input (Some (Err response.Memory)) after = ⊥
