-- How far a call has come when its response is there, or why it ends before.
use Rattle.std.specs.Prelude.{◌≡◌, ◌⊎◌, ℕ, List, [], ◌∷◌, ◌++◌, drop, Result, Ok, Err}
use Rattle.std.specs.Io.KnownBytes.{Appends, Consumes}
use Rattle.http_client.specs.Front.{IsResponseAt}
use Rattle.http_client.specs.Incoming.{CountsReads, Reads as ResponseReads}
use Rattle.http_client.specs.Response.{IsUnfinished}
use Rattle.http_client.specs.declared.front.ResponseSpans.{ResponseSpans}
use Rattle.http_client.specs.declared.incoming.ResponseFault.{ResponseFault}
use Rattle.http_client.specs.declared.incoming.ResponseFault.TheVariants as response
use Rattle.replicator.specs.declared.fault.PeerFault.{PeerFault}
use Rattle.replicator.specs.declared.fault.PeerFault.TheVariants as fault
use Rattle.replicator_http.specs.Connection.{Connection, Exchange, Unmade, GivenUp, Cut, Unanswered, Answered, Exchanges, IsSent, IsWritten, state_after}
use Rattle.replicator_http.specs.declared.state.State.{State}
use Rattle.replicator_http.specs.declared.state.State.TheVariants as state

-- why a request without a response has no answer
abbrev pub fault_of : ResponseFault → PeerFault
fault_of response.Ended = fault.Failed
fault_of response.ReadFailed = fault.Failed
fault_of response.Unreadable = fault.Unreadable
fault_of response.Memory = fault.Memory

-- these bytes were written, and nothing else has changed
pub record HasWritten (bytes : List ℕ) (old new : Connection) : Type 0 where
  pub written : Appends old.taken new.taken bytes
  pub failed_writes : new.failed_writes ≡ old.failed_writes
  pub left : new.left ≡ old.left
  pub failed_reads : new.failed_reads ≡ old.failed_reads
  pub come : new.come ≡ old.come
  pub ahead : new.ahead ≡ old.ahead
  pub state : new.state ≡ old.state
  pub terms : new.terms ≡ old.terms

-- the request was written, now or ahead, and nothing else has changed
pub record IsPut (request : List ℕ) (old new : Connection) : Type 0 where
  pub sent : IsSent request old new
  pub failed_writes : new.failed_writes ≡ old.failed_writes
  pub left : new.left ≡ old.left
  pub failed_reads : new.failed_reads ≡ old.failed_reads
  pub come : new.come ≡ old.come
  pub state : new.state ≡ old.state
  pub terms : new.terms ≡ old.terms

-- a request has its turn: none is ahead, or it is the next of those that are
abbrev pub IsTurnOf : List ℕ → List (List ℕ) → Type 0
IsTurnOf request ahead = (ahead ≡ []) ⊎ ((rest : List (List ℕ)) × (ahead ≡ request ∷ rest))

-- how it goes on after what was read
abbrev pub state_then : Result ResponseSpans ResponseFault → State → State
state_then (Ok spans) old = old
state_then (Err why) old = state_after why

-- It was read until a whole response was there or none came; nothing was where the bytes that had come are not a part of
-- a response.
pub record Reads (old new : Connection) (result : Result ResponseSpans ResponseFault) : Type 0 where
  pub read : (piece : List ℕ) × (new.come ≡ old.come ++ piece) × Consumes old.left new.left piece
  pub needed : IsUnfinished old.come ⊎ ((new.come ≡ old.come) × (new.left ≡ old.left))
  pub response : ResponseReads new.come new.left result
  pub failed_reads : CountsReads old.failed_reads new.failed_reads result
  pub taken : new.taken ≡ old.taken
  pub failed_writes : new.failed_writes ≡ old.failed_writes
  pub ahead : new.ahead ≡ old.ahead
  pub state : new.state ≡ state_then result old.state
  pub terms : new.terms ≡ old.terms

-- the request was written, and all that has come is there: a response first
pub record HasCome (request : List ℕ) (old new : Connection) (spans : ResponseSpans) : Type 0 where
  pub is_written : IsWritten request new.come old new
  pub is_response : IsResponseAt new.come spans
  pub failed_reads : new.failed_reads ≡ old.failed_reads
  pub goes_on : new.state ≡ state.Open

-- why an exchange has no response
abbrev pub IsFaultOf : Exchange → PeerFault → Type 0
IsFaultOf Unmade why = ⊥
IsFaultOf (GivenUp given) why = why ≡ given
IsFaultOf Cut why = why ≡ fault.Failed
IsFaultOf (Unanswered come because) why = why ≡ fault_of because
IsFaultOf (Answered response behind) why = ⊥

-- no response came
abbrev pub Fails : List ℕ → Connection → Connection → PeerFault → Type 0
Fails request old new why = (exchange : Exchange) × Exchanges request old exchange new × IsFaultOf exchange why

-- without the response, and with the bytes behind it
abbrev pub after : Connection → ResponseSpans → Connection
after c spans = record c { come = drop spans.body.end c.come }
