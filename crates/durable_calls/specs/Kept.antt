-- Calls of a session whose entries a journal keeps.
use Rattle.std.specs.Prelude.{◌≡◌, ◌≢◌, ◌⊎◌, ℕ, ◌<◌, ◌≤◌, max, Bool, true, false, List, length, Result, Ok, Err, IfOk, ⊤}
use Rattle.std.specs.List.{FoldsTo}
use mathlib.Core.List.{IsPrefix}
use Rattle.model.specs.Command.{Command, Entry}
use Rattle.session_api.specs.declared.fault.Unavailable.TheVariants as unavailable
use Rattle.session_api.specs.SessionCall.{SessionCall, Refreshed, Wrote, Waited}
use Rattle.session_api.specs.Known.{Known, update_seq_of}
use Rattle.session_api.specs.declared.fault.CallFault.{CallFault}
use Rattle.session_api.specs.declared.fault.CallFault.TheVariants as fault

-- Entries up to the place, of which there are some, are among those of which this is known, with which these begin.
abbrev pub IsPast : (List Entry → Type 0) → ℕ → List Entry → Type 0
IsPast is_known place journaled = 0 < place → (known : List Entry) × IsPrefix known journaled × (place ≤ length known) × is_known known

-- the number is within a limit, of which this is known with entries that these begin with
abbrev pub IsWithin : (ℕ → List Entry → Type 0) → ℕ → List Entry → Type 0
IsWithin is_limit number journaled = (limit : ℕ) × (known : List Entry) × IsPrefix known journaled × (number ≤ limit) × is_limit limit known

-- What has so many entries and this update number may be shown, where the journal is known to have these: so many are appended to
-- it, kept too where that is awaited, and the number is within a limit.
pub record IsShown (is_appended is_kept : List Entry → Type 0) (is_limit : ℕ → List Entry → Type 0) (awaits : Bool) (place number : ℕ) (journaled : List Entry) : Type 0 where
  pub appended : IsPast is_appended place journaled
  pub kept : awaits ≡ true → IsPast is_kept place journaled
  pub within : IsWithin is_limit number journaled

-- the journal failed
abbrev pub journal_fault : CallFault
journal_fault = fault.Unavailable unavailable.Journal

-- why nothing was written, where the journal had failed before: a session that is lost says so
abbrev pub refused_by : Result ⊤ CallFault → CallFault
refused_by (Ok done) = journal_fault
refused_by (Err fault.Memory) = journal_fault
refused_by (Err (fault.Unavailable unavailable.Busy)) = journal_fault
refused_by (Err (fault.Unavailable unavailable.Lost)) = fault.Unavailable unavailable.Lost
refused_by (Err (fault.Unavailable unavailable.Full)) = journal_fault
refused_by (Err (fault.Unavailable unavailable.Behind)) = journal_fault
refused_by (Err (fault.Unavailable unavailable.Overrun)) = journal_fault
refused_by (Err (fault.Unavailable unavailable.Entry)) = journal_fault
refused_by (Err (fault.Unavailable unavailable.Journal)) = journal_fault

-- a turn of a wait in which nothing came
abbrev pub WaitsInVain : {S : Type 0} → (S → SessionCall → S → Type 0) → ℕ → S → SessionCall → S → Type 0
WaitsInVain goes seq old call new = (call ≡ Waited seq 1 (Ok false)) × goes old call new

-- by what a session does
module _ {S : Type 0} (goes : S → SessionCall → S → Type 0) where
  -- Why a wait ends: there were enough turns, the epoch ends since its history is full, or one more turn has another answer.
  abbrev pub EndsWait : ℕ → ℕ → List SessionCall → S → Result Bool CallFault → S → Type 0
  EndsWait seq turns passed here answer new =
      ((length passed ≡ max turns 1) × (new ≡ here) × (answer ≡ Ok false))
      ⊎ ((0 < length passed) × (new ≡ here) × (answer ≡ Err (fault.Unavailable unavailable.Full)))
      ⊎ ((length passed < max turns 1) × goes here (Waited seq 1 answer) new × (answer ≢ Ok false))

  -- it waits turn by turn
  pub record WaitsKept (seq turns : ℕ) (old : S) (answer : Result Bool CallFault) (new : S) : Type 0 where
    pub passed : List SessionCall
    pub here : S
    pub runs : FoldsTo (WaitsInVain goes seq) old passed here
    pub ends : EndsWait seq turns passed here answer new

-- What a session that answers what a journal has consists of: the session, whether it awaits what is kept, and the entries which it
-- knows that the journal has.
abbrev pub Answering : Type 0 → Type 0
Answering S = S × (Bool × List Entry)

-- it stays, or knows of more entries, which go on from those
abbrev pub LearnsOf : Bool × List Entry → Bool × List Entry → Type 0
LearnsOf old new = (new ≡ old) ⊎ ((new.0 ≡ old.0) × IsPrefix old.1 new.1)

-- by what a session knows, what is known of the entries that a journal has, and of the limits of its numbers
module _ {S : Type 0} (known : S → Known) (is_appended is_kept : List Entry → Type 0) (is_limit : ℕ → List Entry → Type 0) where
  -- all that the session has seen may be shown
  abbrev pub Shows : Answering S → Type 0
  Shows s = IsShown is_appended is_kept is_limit s.1.0 (length (known s.0).seen) (update_seq_of (known s.0)) s.1.1

  -- What is answered to a write that the session answered so: its place, where all that was seen may be shown; or that the
  -- journal has not kept it.
  abbrev pub IsKeptAs : Answering S → Result ℕ CallFault → Result ℕ CallFault → Type 0
  IsKeptAs new (Ok place) answer = ((answer ≡ Ok place) × Shows new) ⊎ (answer ≡ Err journal_fault)
  IsKeptAs new (Err why) answer = answer ≡ Err why

  -- all that the session has seen may be shown, or the journal has failed
  abbrev pub ShowsUnless : Type 0 → Answering S → Type 0
  ShowsUnless has_failed s = Shows s ⊎ has_failed

-- the same, by what a session does too, and what is known once the journal has failed
module _ {S : Type 0} (goes : S → SessionCall → S → Type 0) (known : S → Known) (is_appended is_kept : List Entry → Type 0) (is_limit : ℕ → List Entry → Type 0) (has_failed : Type 0) where
  -- the journal had failed before, and it only looked
  abbrev pub RefusesKept : S → Result ℕ CallFault → S → Type 0
  RefusesKept old answer new = has_failed × ((looked : Result ⊤ CallFault) × goes old (Refreshed looked) new × (answer ≡ Err (refused_by looked)))

  -- it wrote, and answers its place when that may be shown
  abbrev pub WritesKept : Command → Answering S → Result ℕ CallFault → Answering S → Type 0
  WritesKept command old answer new =
      (wrote : Result ℕ CallFault) × goes old.0 (Wrote command wrote) new.0 × IsKeptAs known is_appended is_kept is_limit new wrote answer

  -- by this call with this answer it goes from one state to another
  abbrev pub GoesKept : Answering S → SessionCall → Answering S → Type 0
  GoesKept old (Refreshed answer) new =
      goes old.0 (Refreshed answer) new.0
      × IfOk answer (λ _. ShowsUnless known is_appended is_kept is_limit has_failed new)
      × LearnsOf old.1 new.1
  GoesKept old (Wrote command answer) new = (RefusesKept old.0 answer new.0 ⊎ WritesKept command old answer new) × LearnsOf old.1 new.1
  GoesKept old (Waited seq turns answer) new =
      WaitsKept goes seq turns old.0 answer new.0
      × IfOk answer (λ _. ShowsUnless known is_appended is_kept is_limit has_failed new)
      × LearnsOf old.1 new.1
