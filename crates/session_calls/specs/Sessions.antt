-- Sessions on threads, as connections see them, and what `sessions` proves of their calls.
use Rattle.std.specs.Prelude.{◌≡◌, ℕ, ◌+◌, ◌^◌, ◌<◌, ◌≤◌, ◌⊎◌, length, nat_lt, Bool, true, false, Option, Ok, Err}
use Rattle.model.specs.Database.{Database}
use Rattle.model.specs.History.{now}
use Rattle.model.specs.World.{Config, is_compact}
use Rattle.sessions.specs.Calls.{Looks, Writes, Told}
use Rattle.sessions.specs.Compactions.{Leaves, chronicle_of}
use Rattle.sessions.specs.Known.{Known as KnownOfThreads, seen}
use Rattle.sessions.specs.declared.fault.Fault.{Fault}
use Rattle.sessions.specs.declared.fault.Fault.TheVariants as of_threads
use Rattle.session_api.specs.declared.fault.Unavailable.TheVariants as unavailable
use Rattle.session_api.specs.SessionCall.{SessionCall, Refreshed, Wrote, Waited}
use Rattle.session_api.specs.Known.{Known}
use Rattle.session_api.specs.declared.fault.CallFault.{CallFault}
use Rattle.session_api.specs.declared.fault.CallFault.TheVariants as fault

abbrev pub call_fault : Fault → CallFault
call_fault of_threads.Memory = fault.Memory
call_fault of_threads.Busy = fault.Unavailable unavailable.Busy
call_fault of_threads.Lost = fault.Unavailable unavailable.Lost
call_fault of_threads.Full = fault.Unavailable unavailable.Full
call_fault of_threads.EntryRefused = fault.Unavailable unavailable.Entry
call_fault of_threads.Behind = fault.Unavailable unavailable.Behind
call_fault of_threads.Overrun = fault.Unavailable unavailable.Overrun

-- a lost session answers so, and stays as it is
abbrev pub IsLostForEver : KnownOfThreads → Fault → KnownOfThreads → Type 0
IsLostForEver old why new = old.lost ≡ true → (why ≡ of_threads.Lost) × (new ≡ old)

-- over this base, of a database with these numbers, so many sessions, and so many places in the queue
module _ (base : Option Database) (config : Config) (sessions queue : ℕ) where
  -- what such a session knows
  abbrev pub known_of : KnownOfThreads → Known
  known_of k = record { number = k.number; base = base; room = config.max_places; sessions = sessions; queue = queue; seen = seen k; pushes = k.pushes; lost = k.lost }

  -- a look is refused where the session is lost, or can't enter to read: it then sees what it saw
  abbrev pub RefusesLook : KnownOfThreads → Fault → KnownOfThreads → Type 0
  RefusesLook old of_threads.Lost new = (old.lost ≡ true) × (new ≡ old)
  RefusesLook old of_threads.EntryRefused new = (old.lost ≡ false) × (new ≡ old)
  RefusesLook old of_threads.Memory new = ⊥
  RefusesLook old of_threads.Busy new = ⊥
  RefusesLook old of_threads.Full new = ⊥
  RefusesLook old of_threads.Behind new = ⊥
  RefusesLook old of_threads.Overrun new = ⊥

  -- and so is a wait, which may have looked before
  abbrev pub RefusesWait : KnownOfThreads → Fault → KnownOfThreads → Type 0
  RefusesWait old of_threads.Lost new = (old.lost ≡ true) × (new ≡ old)
  RefusesWait old of_threads.EntryRefused new = (old.lost ≡ false) × Looks base old new
  RefusesWait old of_threads.Memory new = ⊥
  RefusesWait old of_threads.Busy new = ⊥
  RefusesWait old of_threads.Full new = ⊥
  RefusesWait old of_threads.Behind new = ⊥
  RefusesWait old of_threads.Overrun new = ⊥

  -- an edit is refused memory; room in the queue, where it has less than there are sessions, or after 2^62 pushes; room in
  -- the history, where that is full; or it is lost
  abbrev pub RefusesEdit : KnownOfThreads → Fault → KnownOfThreads → Type 0
  RefusesEdit old of_threads.Memory new = new ≡ record old { pushes = new.pushes }
  RefusesEdit old of_threads.Busy new = (new ≡ old) × ((queue < sessions) ⊎ (2 ^ 62 ≤ old.pushes))
  RefusesEdit old of_threads.Lost new = new ≡ record old { pushes = new.pushes; entered = new.entered; lost = true }
  RefusesEdit old of_threads.Full new = Looks base (record old { pushes = new.pushes }) new × (length (seen new) ≡ config.max_places)
  RefusesEdit old of_threads.EntryRefused new = ⊥
  RefusesEdit old of_threads.Behind new = ⊥
  RefusesEdit old of_threads.Overrun new = ⊥

  -- why a write or a compaction has no receipt
  abbrev pub RefusesWrite : Bool → KnownOfThreads → Fault → KnownOfThreads → Type 0
  RefusesWrite false old why new = RefusesEdit old why new × (new.pushes ≤ old.pushes + 1)
  RefusesWrite true old why new = Leaves base config why old new × (new.pushes ≡ old.pushes)

  -- by this call with this answer a session goes from what it knew to what it knows
  abbrev pub Goes : KnownOfThreads → SessionCall → KnownOfThreads → Type 0
  Goes old (Refreshed (Ok done)) new = Looks base old new × (old.lost ≡ false)
  Goes old (Refreshed (Err why)) new = (refused : Fault) × (why ≡ call_fault refused) × RefusesLook old refused new
  Goes old (Waited seq turns (Ok past)) new =
      Looks base old new
      × (old.lost ≡ false)
      × (past ≡ nat_lt seq (now (chronicle_of base new)).update_seq)
      × (past ≡ false → turns ≤ new.waited)
  Goes old (Waited seq turns (Err why)) new = (refused : Fault) × (why ≡ call_fault refused) × RefusesWait old refused new
  Goes old (Wrote command (Ok place)) new =
      (receipt : Told) × (place ≡ receipt.place) × Writes base old command receipt new × (old.lost ≡ false) × (new.pushes ≤ old.pushes + 1)
  Goes old (Wrote command (Err why)) new =
      (refused : Fault) × (why ≡ call_fault refused) × RefusesWrite (is_compact command) old refused new × IsLostForEver old refused new
