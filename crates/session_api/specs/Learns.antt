-- What a session learns by its calls.
use Rattle.std.specs.Prelude.{◌≡◌, ℕ, ◌+◌, ◌^◌, ◌<◌, ◌≤◌, ◌⊎◌, List, [], ◌∷◌, length, nat_lt, Bool, true, false, Ok, Err}
use Rattle.model.specs.Command.{Command, Entry}
use Rattle.model.specs.History.{IsLegal, of_session, base_of}
use Rattle.model.specs.World.{is_compact}
use Rattle.session_api.specs.declared.fault.Unavailable.TheVariants as unavailable
use Rattle.session_api.specs.SessionCall.{SessionCall, Refreshed, Wrote, Waited}
use Rattle.session_api.specs.Known.{Known, HasEntryAt, sees_more, update_seq_of, with_calls}
use Rattle.session_api.specs.declared.fault.CallFault.{CallFault}
use Rattle.session_api.specs.declared.fault.CallFault.TheVariants as fault

-- A look: a legal history is seen, which goes on from what was seen, with no new entry of the session's own.
pub record Looks (old new : Known) : Type 0 where
  pub legal : IsLegal (base_of new.base) new.seen
  pub more : List Entry
  pub extends : new ≡ sees_more old more
  pub none : of_session old.number more ≡ []

-- A command was written: a legal history is seen, which goes on from what was seen, has the command's entry at the
-- place, and no other new entry of the session's own. At most one job more was pushed.
pub record WritesCall (old : Known) (command : Command) (place : ℕ) (new : Known) : Type 0 where
  pub legal : IsLegal (base_of new.base) new.seen
  pub more : List Entry
  pub extends : new ≡ with_calls (sees_more old more) new.pushes old.lost
  pub entry : Entry
  pub asked : entry.command ≡ command
  pub own : entry.seat.session ≡ old.number
  pub told : HasEntryAt new place entry
  pub above : length old.seen < place
  pub only : of_session old.number more ≡ entry ∷ []
  pub pushes : new.pushes ≤ old.pushes + 1

-- ---- why a call has no answer

-- a look: the session is lost, or it can't enter to read
abbrev pub RefusesLook : Known → CallFault → Type 0
RefusesLook k fault.Memory = ⊥
RefusesLook k (fault.Unavailable unavailable.Busy) = ⊥
RefusesLook k (fault.Unavailable unavailable.Lost) = k.lost ≡ true
RefusesLook k (fault.Unavailable unavailable.Full) = ⊥
RefusesLook k (fault.Unavailable unavailable.Behind) = ⊥
RefusesLook k (fault.Unavailable unavailable.Overrun) = ⊥
RefusesLook k (fault.Unavailable unavailable.Entry) = k.lost ≡ false
RefusesLook k (fault.Unavailable unavailable.Journal) = ⊥

-- a wait: a look of it is refused, or the history is full and its epoch ends
abbrev pub RefusesWait : Known → CallFault → Type 0
RefusesWait k fault.Memory = ⊥
RefusesWait k (fault.Unavailable unavailable.Busy) = ⊥
RefusesWait k (fault.Unavailable unavailable.Lost) = k.lost ≡ true
RefusesWait k (fault.Unavailable unavailable.Full) = k.lost ≡ false
RefusesWait k (fault.Unavailable unavailable.Behind) = ⊥
RefusesWait k (fault.Unavailable unavailable.Overrun) = ⊥
RefusesWait k (fault.Unavailable unavailable.Entry) = k.lost ≡ false
RefusesWait k (fault.Unavailable unavailable.Journal) = ⊥

-- more sessions share the queue than it has places, or this one has pushed 2^62 jobs
abbrev pub CanBeBusy : Known → Type 0
CanBeBusy k = (k.queue < k.sessions) ⊎ (2 ^ 62 ≤ k.pushes)

-- A write or a compaction: an edit waits in the queue of commands, and a compaction follows the edits of others. Either is
-- lost for ever, and else was not lost before.
abbrev pub RefusesWrite : Known → Command → Known → CallFault → Type 0
RefusesWrite old command new fault.Memory = old.lost ≡ false
RefusesWrite old command new (fault.Unavailable unavailable.Busy) = (old.lost ≡ false) × (is_compact command ≡ false) × CanBeBusy old × (new ≡ old)
RefusesWrite old command new (fault.Unavailable unavailable.Lost) = old.lost ≡ true → new ≡ old
RefusesWrite old command new (fault.Unavailable unavailable.Full) = (old.lost ≡ false) × (length new.seen ≡ new.room)
RefusesWrite old command new (fault.Unavailable unavailable.Behind) = (old.lost ≡ false) × (is_compact command ≡ true)
RefusesWrite old command new (fault.Unavailable unavailable.Overrun) = (old.lost ≡ false) × (is_compact command ≡ true)
RefusesWrite old command new (fault.Unavailable unavailable.Entry) = (old.lost ≡ false) × (is_compact command ≡ true)
RefusesWrite old command new (fault.Unavailable unavailable.Journal) = old.lost ≡ false

-- the reason says that the session is lost
abbrev pub says_lost : CallFault → Bool
says_lost fault.Memory = false
says_lost (fault.Unavailable unavailable.Busy) = false
says_lost (fault.Unavailable unavailable.Lost) = true
says_lost (fault.Unavailable unavailable.Full) = false
says_lost (fault.Unavailable unavailable.Behind) = false
says_lost (fault.Unavailable unavailable.Overrun) = false
says_lost (fault.Unavailable unavailable.Entry) = false
says_lost (fault.Unavailable unavailable.Journal) = false

-- A write or a compaction has no entry that the session sees, for this reason: it may have looked, and pushed one job more
-- at most. The session is lost from then on exactly where that is the reason.
pub record LeavesNone (old : Known) (command : Command) (why : CallFault) (new : Known) : Type 0 where
  pub looks : Looks (with_calls old new.pushes new.lost) new
  pub pushes : new.pushes ≤ old.pushes + 1
  pub lost : new.lost ≡ says_lost why
  pub reason : RefusesWrite old command new why

-- A write or a compaction has an entry that the session sees, and the journal failed before it was known to be kept.
pub record LeavesUnsynced (old : Known) (command : Command) (why : CallFault) (new : Known) : Type 0 where
  pub why_is : why ≡ fault.Unavailable unavailable.Journal
  pub place : ℕ
  pub writes : WritesCall old command place new
  pub kept : old.lost ≡ false

-- ---- what a session knows after a call

abbrev pub Learns : Known → SessionCall → Known → Type 0
Learns old (Refreshed (Ok done)) new = Looks old new × (old.lost ≡ false)
Learns old (Refreshed (Err why)) new = Looks old new × (new ≡ old) × RefusesLook old why
Learns old (Wrote command (Ok place)) new = WritesCall old command place new × (old.lost ≡ false)
Learns old (Wrote command (Err why)) new = LeavesNone old command why new ⊎ LeavesUnsynced old command why new
Learns old (Waited seq turns (Ok past)) new = Looks old new × (old.lost ≡ false) × (past ≡ nat_lt seq (update_seq_of new))
Learns old (Waited seq turns (Err why)) new = Looks old new × (old.lost ≡ true → new ≡ old) × RefusesWait old why

-- The session made this call, and knows then what the call reports: by what it does, and what it knows.
pub record Makes {S : Type 0} (goes : S → SessionCall → S → Type 0) (known : S → Known) (old : S) (call : SessionCall) (new : S) : Type 0 where
  pub made : goes old call new
  pub learns : Learns (known old) call (known new)
