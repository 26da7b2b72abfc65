-- What a worker does with the session that it is lent.
use Rattle.std.specs.Prelude.{◌≡◌, ℕ, zero, suc, ◌<◌, ◌≤◌, ◌==◌, ⊤, List, length, slice_index_or, Option, None, Some, IfSome, IfNone, Result, Bool, true, if◌then◌else◌}
use Rattle.std.specs.List.{FoldsTo}
use Rattle.streams.specs.Streams.{Streams}
use Rattle.http_connection.specs.declared.outcome.Ended.{Ended}
use Rattle.http_connection.specs.declared.outcome.Cause.TheVariants as cause
use Rattle.session_api.specs.Known.{Known}
use Rattle.session_api.specs.Learns.{Makes}
use Rattle.session_api.specs.declared.fault.CallFault.{CallFault}
use Rattle.http_guard.specs.Guarded.{Guarded}
use Rattle.http_turns.specs.Connection.{IsConnection}
use Rattle.http_turns.specs.SessionTurn.{Answers}
use Rattle.origin_policy.specs.declared.policy.Policy.{Policy}
use Rattle.session_api.specs.SessionCall.{SessionCall, Refreshed}

-- how many connections are accepted where no number ends them
unfoldable pub no_end : ℕ
no_end = 18446744073709551615

-- how many connections are accepted, where 0 stands for no end
abbrev pub most_connections : ℕ → ℕ
most_connections connections = if connections == 0 then no_end else connections

-- the place of the last answer on a connection, or 0 where there was none
abbrev pub place_of : Option ℕ → ℕ
place_of None = 0
place_of (Some place) = place

-- A visit of a connection: what a worker did with it between taking it and returning or closing it. The place that it came with;
-- how it ended, where a client that is silent counts as the end of the input, unless it was returned as it was; the place that it
-- left with; and whether it was returned, so that its client may ask more.
pub record Visit : Type 0 where
  pub came : ℕ
  pub ended : Option Ended
  pub left : ℕ
  pub goes_on : Bool

module _ {S : Type 0} (goes : S → SessionCall → S → Type 0) (known : S → Known) where
  -- the session looked, or went on as it was
  abbrev pub CatchesUp : S → Option (Result ⊤ CallFault) → S → Type 0
  CatchesUp old None mid = mid ≡ old
  CatchesUp old (Some looked) mid = Makes goes known old (Refreshed looked) mid

module _ {S : Type 0} (goes : S → SessionCall → S → Type 0) (known : S → Known) (turns : ℕ) where
  -- a session served all requests of a connection, or those that a policy lets pass, where there is one
  abbrev pub IsServedBy : Option Policy → Streams → Streams → S → Ended → S → Type 0
  IsServedBy None before after old ended new = IsConnection goes known turns before after old new ended
  IsServedBy (Some policy) before after old ended new = Guarded policy (Answers goes known turns) before after old new ended

  -- a connection of a session, whatever its socket gave and took; where a policy decides, what passed of one
  pub record Serves (old : S) (ended : Ended) (new : S) : Type 0 where
    pub before : Streams
    pub after : Streams
    pub connection : IsConnection goes known turns before after old new ended

  -- a connection was served, or could not be accepted
  abbrev pub Accepts : S → Option Ended → S → Type 0
  Accepts old (Some ended) new = Serves old ended new
  Accepts old None new = new ≡ old

  -- Connections of a session one after the other, exactly so many with those that could not be accepted; 2^64 - 1 where the
  -- number is 0.
  pub record ServesAll (connections : ℕ) (old new : S) : Type 0 where
    pub accepted : List (Option Ended)
    pub runs : FoldsTo Accepts old accepted new
    pub all : length accepted ≡ most_connections connections

  -- The same, but for those that are not accepted any more where they end early.
  pub record ServesSome (connections : ℕ) (old new : S) : Type 0 where
    pub accepted : List (Option Ended)
    pub runs : FoldsTo Accepts old accepted new
    pub some : length accepted ≤ most_connections connections

  -- A session served a connection, or what a policy let pass, until its input ended between requests: each that came was answered,
  -- and of a next one nothing was read.
  pub record ServesWhole (old new : S) : Type 0 where
    pub policy : Option Policy
    pub before : Streams
    pub after : Streams
    pub ended : Ended
    pub at_end : ended.cause ≡ cause.AtEnd
    pub served : IsServedBy policy before after old ended new

  -- A visit, by a session that may look first. The connection is answered where the session has seen as many entries as the one
  -- that answered it last, and else is returned as it was. It leaves with the place up to which the session has seen then, and
  -- is returned only where nothing of a next request was read.
  pub record Visits (old : S) (visit : Visit) (new : S) : Type 0 where
    pub looked : Option (Result ⊤ CallFault)
    pub mid : S
    pub catches_up : CatchesUp goes known old looked mid
    pub served : IfSome visit.ended (λ ended. (visit.came ≤ length (known mid).seen) × Serves mid ended new × (visit.left ≡ length (known new).seen))
    pub whole : IfSome visit.ended (λ ended. visit.goes_on ≡ true → ServesWhole mid new)
    pub returned : IfNone visit.ended ((length (known mid).seen < visit.came) × (new ≡ mid) × (visit.left ≡ visit.came) × (visit.goes_on ≡ true))

  -- Visits by a session one after the other.
  pub record ServesVisits (old new : S) : Type 0 where
    pub visits : List Visit
    pub runs : FoldsTo Visits old visits new

  -- all connections, or visits where the number is 0: a connection that the worker accepted is one visit
  abbrev pub ServesCounted : ℕ → S → S → Type 0
  ServesCounted zero old new = ServesVisits old new
  ServesCounted (suc n) old new = ServesAll (suc n) old new

  -- some of them, or visits where the number is 0
  abbrev pub ServesFew : ℕ → S → S → Type 0
  ServesFew zero old new = ServesVisits old new
  ServesFew (suc n) old new = ServesSome (suc n) old new

  -- all, or some where there is a flag, which ends them early
  abbrev pub ServesUntil : {F : Type 0} → Option F → ℕ → S → S → Type 0
  ServesUntil None connections old new = ServesCounted connections old new
  ServesUntil (Some over) connections old new = ServesFew connections old new

  -- each session served visits
  abbrev pub EachVisits : List S → List S → Type 0
  EachVisits before after = (length after ≡ length before) × ((i : ℕ) (d : S) → i < length before → ServesVisits (slice_index_or before i d) (slice_index_or after i d))
