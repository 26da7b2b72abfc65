-- The connection to another database, and what a request does on it.
use Rattle.std.specs.Prelude.{◌≡◌, ◌⊎◌, ℕ, ◌<◌, Bool, List, [], ◌∷◌, ◌++◌, length, take, Option, Err}
use Rattle.std.specs.Io.KnownBytes.{Appends, Consumes}
use Rattle.streams.specs.Counts.{CountRose}
use Rattle.http_client.specs.Incoming.{CountsReads, Reads}
use Rattle.http_client.specs.Response.{BeginsWithResponse, IsUnfinished, Response}
use Rattle.http_client.specs.declared.front.ResponseSpans.{ResponseSpans}
use Rattle.http_client.specs.declared.incoming.ResponseFault.{ResponseFault}
use Rattle.http_client.specs.declared.incoming.ResponseFault.TheVariants as response
use Rattle.replicator.specs.declared.fault.PeerFault.{PeerFault}
use Rattle.replicator.specs.declared.fault.PeerFault.TheVariants as fault
use Rattle.replicator_http.specs.declared.state.State.{State}
use Rattle.replicator_http.specs.declared.state.State.TheVariants as state

-- What requests say of a replication: the host that they name, and whether it skips documents that can't be brought, as
-- the checkpoints that it writes say then.
pub record Terms : Type 0 where
  pub host : List ℕ
  pub skips : Bool

-- The bytes that are left to be read and those that were written, where they are known, and how many reads and writes
-- have failed; the bytes that have come and were not taken; the requests that were written ahead of their turn, whose
-- responses are still to come, the next first; how the connection goes on; how many calls have failed; and what
-- requests say of the replication.
pub record Connection : Type 0 where
  pub left : Option (List ℕ)
  pub failed_reads : ℕ
  pub taken : Option (List ℕ)
  pub failed_writes : ℕ
  pub come : List ℕ
  pub ahead : List (List ℕ)
  pub state : State
  pub failed_calls : ℕ
  pub terms : Terms

-- a connection on which nothing has been asked, by the terms, what is left, the failed reads, what was taken and the failed
-- writes
abbrev pub fresh_connection : Terms → Option (List ℕ) → ℕ → Option (List ℕ) → ℕ → Connection
fresh_connection terms left failed_reads taken failed_writes =
    record { left = left; failed_reads = failed_reads; taken = taken; failed_writes = failed_writes; come = []; ahead = []; state = state.Open; failed_calls = 0; terms = terms }

-- what became of a request
-- RFC 9110, 3.4 "Messages"
pub data Exchange : Type 0 where
  -- memory for its text was refused
  Unmade : Exchange
  -- the connection was given up before, and each call has this fault
  GivenUp : PeerFault → Exchange
  -- a write failed
  Cut : Exchange
  -- it was written, and these bytes have come, from which no response was read
  Unanswered : List ℕ → ResponseFault → Exchange
  -- it was written, and this response has come, with these bytes behind it
  Answered : Response → List ℕ → Exchange

-- the connection is given up, and each call has this fault
abbrev pub IsGivenUp : State → PeerFault → Type 0
IsGivenUp state.Open why = ⊥
IsGivenUp state.Failed why = why ≡ fault.Failed
IsGivenUp state.Unreadable why = why ≡ fault.Unreadable

-- how it goes on after a response that was not read
abbrev pub state_after : ResponseFault → State
state_after response.Ended = state.Failed
state_after response.ReadFailed = state.Failed
state_after response.Unreadable = state.Unreadable
state_after response.Memory = state.Unreadable

-- a beginning of the request was written, and not all, and nothing was read
pub record IsCut (request : List ℕ) (old new : Connection) : Type 0 where
  pub was_open : old.state ≡ state.Open
  pub written : (n : ℕ) × (n < length request) × Appends old.taken new.taken (take n request)
  pub failed_writes : CountRose old.failed_writes new.failed_writes
  pub left : new.left ≡ old.left
  pub failed_reads : new.failed_reads ≡ old.failed_reads
  pub come : new.come ≡ old.come
  pub given_up : new.state ≡ state.Failed
  pub terms : new.terms ≡ old.terms

-- the request was written, where none is ahead, or it is the next of those that were written ahead
abbrev pub IsSent : List ℕ → Connection → Connection → Type 0
IsSent request old new =
    ((old.ahead ≡ []) × (new.ahead ≡ []) × Appends old.taken new.taken request)
    ⊎ ((old.ahead ≡ request ∷ new.ahead) × (new.taken ≡ old.taken))

-- The whole request was written, now or ahead, and then these bytes have come: those that had come before, and what was
-- read. Nothing was where those were not a part of a response.
pub record IsWritten (request come : List ℕ) (old new : Connection) : Type 0 where
  pub was_open : old.state ≡ state.Open
  pub written : IsSent request old new
  pub failed_writes : new.failed_writes ≡ old.failed_writes
  pub read : (piece : List ℕ) × (come ≡ old.come ++ piece) × Consumes old.left new.left piece
  pub needed : IsUnfinished old.come ⊎ ((come ≡ old.come) × (new.left ≡ old.left))
  pub terms : new.terms ≡ old.terms

-- the bytes that have come are no whole response, and stay
pub record IsUnanswered (request come : List ℕ) (why : ResponseFault) (old new : Connection) : Type 0 where
  pub is_written : IsWritten request come old new
  pub reads : Reads come new.left (Err why)
  pub failed_reads : CountsReads {A = ResponseSpans} old.failed_reads new.failed_reads (Err why)
  pub come_stays : new.come ≡ come
  pub given_up : new.state ≡ state_after why

-- the bytes that have come begin with a response, and those behind it belong to the next one
pub record IsAnswered (request : List ℕ) (response : Response) (behind : List ℕ) (old new : Connection) : Type 0 where
  pub come : List ℕ
  pub is_written : IsWritten request come old new
  pub begins : BeginsWithResponse come response behind
  pub failed_reads : new.failed_reads ≡ old.failed_reads
  pub behind_stays : new.come ≡ behind
  pub goes_on : new.state ≡ state.Open

-- By a request the connection goes from one state to the next. Once it is given up, nothing is written and nothing read.
abbrev pub Exchanges : List ℕ → Connection → Exchange → Connection → Type 0
Exchanges request old Unmade new = new ≡ old
Exchanges request old (GivenUp why) new = IsGivenUp old.state why × (new ≡ record old { failed_calls = new.failed_calls })
Exchanges request old Cut new = (old.ahead ≡ []) × IsCut request old new
Exchanges request old (Unanswered come why) new = IsUnanswered request come why old new
Exchanges request old (Answered response behind) new = IsAnswered request response behind old new
