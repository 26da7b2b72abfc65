-- What a server starts with.
use Rattle.std.specs.Prelude.{◌≡◌, ◌⊎◌, ℕ, Bool, true, false, suc, ◌-◌, ◌<◌, ◌≤◌, All, List, Option, Some, None, [], MatchBool, MatchOption}
use Rattle.std.specs.List.{Contains}
use Rattle.journal.specs.Held.{begun}
use Rattle.journal.specs.Marks.{ahead_of, mark_for, raise_by, synced_by}
use Rattle.journal.specs.Refusing.{IsEndedBy, IsExhausted}
use Rattle.journal.specs.Restoring.{IsRestored}
use Rattle.replay_cli.specs.declared.verdict.Verdict.{Verdict}
use Rattle.journal.specs.declared.boot.BootId.{BootId}
use Rattle.journal.specs.declared.mark.Mark.{Mark}
use Rattle.journal.specs.declared.restored.End.{End}
use Rattle.journal.specs.declared.restored.End.TheVariants as end
use Rattle.journal.specs.declared.restored.Restored.{Restored}
use Rattle.journal.specs.declared.start_fault.StartFault.{StartFault}
use Rattle.journal.specs.declared.start_fault.StartFault.TheVariants as start
use Rattle.journal.specs.declared.started.Access.{Access}
use Rattle.journal.specs.declared.started.Access.TheVariants as access
use Rattle.journal.specs.declared.started.Dropped.{Dropped}
use Rattle.journal.specs.declared.started.Started.{Started}

-- the newest of these epochs, if there is one
abbrev pub IsNewest : List ℕ → Option ℕ → Type 0
IsNewest epochs newest = MatchOption newest (epochs ≡ []) (λ n. Contains epochs n × All (λ epoch. epoch ≤ n) epochs)

-- whether a whole line is dropped, and not only one that was cut
abbrev pub is_torn : End → Bool
is_torn end.Whole = false
is_torn end.Cut = false
is_torn end.Torn = true

-- what is dropped of a file of this length, of which this is left: all behind the lines that were taken
abbrev pub IsDroppedOf : ℕ → Restored → Option Dropped → Type 0
IsDroppedOf len left None = len ≤ left.taken
IsDroppedOf len left (Some dropped) =
    (left.taken < len) × (dropped.bytes ≡ len - left.taken) × (dropped.place ≡ left.places) × (dropped.torn ≡ is_torn left.end)

-- What begins after the file of this epoch, of so many bytes, was read, of which this is left, and over which this mark was found: the
-- same epoch where that has a first line and no more, and else the next.
pub record IsBegunAfter (read : ℕ) (found : Option Mark) (len : ℕ) (left : Restored) (s : Started) : Type 0 where
  pub read_is : s.read ≡ Some read
  pub mark_is : s.mark ≡ mark_for found read
  pub ahead_is : s.ahead ≡ ahead_of found read
  pub epoch_is : MatchBool left.goes_on (s.begun.epoch ≡ read) (s.begun.epoch ≡ suc read)
  pub version_is : s.begun.version ≡ left.version
  pub places_is : s.places ≡ left.places
  pub dropped_is : IsDroppedOf len left s.dropped
  pub missing_is : s.missing ≡ synced_by (mark_for found read) - len
  pub raised_is : s.raised ≡ left.raised

-- the epoch that begins goes on from what this text leaves, as the mark of its epoch says
pub record IsStartedFrom (text : List ℕ) (s : Started) : Type 0 where
  pub boot : BootId
  pub found : Option Mark
  pub len : ℕ
  pub read : ℕ
  pub left : Restored
  pub restored : IsRestored text (synced_by (mark_for found read)) (raise_by (mark_for found read) boot len) left
  pub after : IsBegunAfter read found len left s

-- the first epoch begins, with nothing read
pub record IsFirstStart (s : Started) : Type 0 where
  pub read_is : s.read ≡ None
  pub epoch_is : s.begun.epoch ≡ 1
  pub version_is : s.begun.version ≡ begun None
  pub places_is : s.places ≡ 0

abbrev pub IsStarted : Started → Type 0
IsStarted s = IsFirstStart s ⊎ ((text : List ℕ) × IsStartedFrom text s)

-- the file that was read has a line that was synced, as its mark says, and is no next entry
pub record IsDamaged (v : Verdict) : Type 0 where
  pub text : List ℕ
  pub mark : Option Mark
  pub at : ℕ
  pub ended : IsEndedBy (synced_by mark) v at text

-- no epoch can begin from what the file leaves
pub record AreNumbersTooLarge : Type 0 where
  pub text : List ℕ
  pub mark : Option Mark
  pub boot : BootId
  pub len : ℕ
  pub exhausted : IsExhausted (synced_by mark) (raise_by mark boot len) text

-- an operation failed, or memory was refused, whatever the files hold
abbrev pub IsOfFiles : StartFault → Type 0
IsOfFiles (start.Judged epoch verdict) = ⊥
IsOfFiles start.NumbersTooLarge = ⊥
IsOfFiles start.LastEpoch = ⊥
IsOfFiles (start.Failed error) = Unit {0}
IsOfFiles (start.File name error) = Unit {0}
IsOfFiles start.Unwritten = Unit {0}
IsOfFiles start.Memory = Unit {0}

-- a start that may write could not make the file of the epoch that begins
abbrev pub IsUnwritten : Access → StartFault → Type 0
IsUnwritten access.ReadOnly fault = ⊥
IsUnwritten (access.ReadWrite shows_kept) fault = IsOfFiles fault
