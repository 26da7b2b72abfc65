-- Requests that are written ahead of their turn.
use Rattle.std.specs.Prelude.{◌≡◌, ◌≤◌, ℕ, List, ◌∷◌, ◌++◌, length, All, ⊤}
use Rattle.std.specs.List.{FoldsTo, concat}
use Rattle.std.specs.Io.KnownBytes.{Appends}
use Rattle.http_client.specs.declared.target.TheConstants.{SEGMENT}
use Rattle.model.specs.Command.{Id}
use Rattle.model.specs.Revision.{Rev}
use Rattle.replicator_http.specs.Connection.{Connection, Exchange, Unanswered, Answered, Exchanges, IsCut}
use Rattle.replicator_http.specs.Requests.{open_revs_request}
use Rattle.replicator_http.specs.declared.state.State.TheVariants as state

-- a request to a host for revisions of a document
abbrev pub AsksRevisions : List ℕ → List ℕ → Type 0
AsksRevisions host request = (id : Id) × (revs : List Rev) × (request ≡ open_revs_request host SEGMENT id revs)

-- the most requests that are ahead at once
abbrev pub max_ahead : ℕ
max_ahead = 100

-- the most bytes of the requests that are ahead at once
abbrev pub max_bytes : ℕ
max_bytes = 16384

-- no more are ahead than a connection holds, so that they can be written although the other end doesn't read
pub record IsWithin (requests : List (List ℕ)) : Type 0 where
  pub few : length requests ≤ max_ahead
  pub small : length (concat requests) ≤ max_bytes

-- what happens on a connection before a request has its turn
pub data Event : Type 0 where
  -- these were written ahead
  Sent : List (List ℕ) → Event
  -- a beginning of these was written, and not all
  CutAhead : List (List ℕ) → Event
  -- the next of those that were written ahead isn't asked: its response is dropped, or none was read
  Dropped : List ℕ → Exchange → Event

-- requests for revisions were written ahead, and nothing was read
pub record IsSentAhead (requests : List (List ℕ)) (old new : Connection) : Type 0 where
  pub was_open : old.state ≡ state.Open
  pub revisions : All (AsksRevisions old.terms.host) requests
  pub written : Appends old.taken new.taken (concat requests)
  pub ahead : new.ahead ≡ old.ahead ++ requests
  pub within : IsWithin new.ahead
  pub left : new.left ≡ old.left
  pub failed_reads : new.failed_reads ≡ old.failed_reads
  pub failed_writes : new.failed_writes ≡ old.failed_writes
  pub come : new.come ≡ old.come
  pub state : new.state ≡ old.state
  pub terms : new.terms ≡ old.terms

-- a response was read, or none is
abbrev pub IsRead : Exchange → Type 0
IsRead (Answered response behind) = ⊤
IsRead (Unanswered come why) = ⊤
IsRead other = ⊥

-- it was the next of those that were ahead
abbrev pub IsNext : List ℕ → Connection → Type 0
IsNext request old = (rest : List (List ℕ)) × (old.ahead ≡ request ∷ rest)

abbrev pub Happens : Connection → Event → Connection → Type 0
Happens old (Sent requests) new = IsSentAhead requests old new
Happens old (CutAhead requests) new = All (AsksRevisions old.terms.host) requests × IsCut (concat requests) old new
Happens old (Dropped request exchange) new = IsNext request old × IsRead exchange × Exchanges request old exchange new

-- so it is after what happened before
abbrev pub AfterEvents : Connection → (Connection → Type 0) → Type 0
AfterEvents old P = (events : List Event) × (mid : Connection) × FoldsTo Happens old events mid × P mid
