-- What a journal keeps of the history that its session sees.
use Rattle.std.specs.Prelude.{◌≡◌, ◌⊎◌, ℕ, ◌+◌, ◌<◌, ◌≤◌, true, false, List, length, Option, Some, IfSome}
use mathlib.Core.List.{IsPrefix}
use Rattle.model.specs.Command.{Entry}
use Rattle.model.specs.Database.{Database}
use Rattle.model.specs.History.{Chronicle, IsLegal, Extends, base_of, now, successor}
use Rattle.replay_cli.specs.Successors.{raise}
use Rattle.session_api.specs.Known.{Known, history_of}
use Rattle.durable_calls.specs.Kept.{IsPast, IsWithin}
use Rattle.journal.specs.Kept.{Kept}
use Rattle.journal.specs.Held.{BeginsDump, HoldsDump}

-- the journal is the dump of a beginning of the history that was seen
pub record IsBehind (k : Kept) (known : Known) : Type 0 where
  pub history : Chronicle
  pub holds : HoldsDump k history
  pub extends : Extends (history_of known) history

-- the journal is the dump of the history that was seen, which is legal
pub record HoldsAll (k : Kept) (known : Known) : Type 0 where
  pub holds : HoldsDump k (history_of known)
  pub legal : IsLegal (base_of known.base) known.seen

-- these entries over a base
abbrev pub history_over : Option Database → List Entry → Chronicle
history_over base entries = record { base = base; entries = entries }

-- By what a file's appends have said, or its syncs have told: one was done when the file was the dump of these entries over this
-- base, which are a legal history.
pub record IsKeptIn (told : Option (List ℕ) → Type 0) (base : Option Database) (entries : List Entry) : Type 0 where
  pub kept : Kept
  pub holds : HoldsDump kept (history_over base entries)
  pub told_so : told kept.taken
  pub legal : IsLegal (base_of base) entries

-- Numbers up to this one may be shown: it is no larger than that of the base; or a sync was done when the file was the dump of these
-- entries, whose number is less by the raise at most.
abbrev pub IsLimitIn : (Option (List ℕ) → Type 0) → Option Database → ℕ → List Entry → Type 0
IsLimitIn told base limit entries =
    (limit ≤ (base_of base).update_seq)
    ⊎ (IsKeptIn told base entries × (limit ≤ (now (history_over base entries)).update_seq + raise))

-- What is said of a journal by a name's facts follows from what its file's appends have said, from what its syncs have told, and
-- from what was reported.
pub record Names (said told : Option (List ℕ) → Type 0) (reported : Type 0) (is_appended is_kept : List Entry → Type 0) (is_limit : ℕ → List Entry → Type 0) (has_failed : Type 0) (base : Option Database) : Type 0 where
  pub appended : (entries : List Entry) → IsKeptIn said base entries → is_appended entries
  pub kept : (entries : List Entry) → IsKeptIn told base entries → is_kept entries
  pub limit : (number : ℕ) (entries : List Entry) → IsLimitIn told base number entries → is_limit number entries
  pub failed : reported → has_failed

-- How far a journal has come that has these entries: all are appended, and so many of them kept, and up to this limit update numbers
-- may be shown.
pub record IsProgress (is_appended is_kept : List Entry → Type 0) (is_limit : ℕ → List Entry → Type 0) (appended kept limit : ℕ) (journaled : List Entry) : Type 0 where
  pub count : appended ≡ length journaled
  pub appended_is : 0 < appended → is_appended journaled
  pub kept_is : IsPast is_kept kept journaled
  pub limit_is : IsWithin is_limit limit journaled

-- What is known to be in the journal of this base begins what the session has seen.
pub record IsAccounted (base : Option Database) (known : Known) (journaled : List Entry) : Type 0 where
  pub base_is : known.base ≡ base
  pub begins : IsPrefix journaled known.seen

-- What lies under a pen: unless the journal is broken, which was reported, it is the dump of a beginning of what the session has
-- seen. Where the next epoch has begun, it has all of that, and begins with its last database.
pub record IsRound (has_failed : Type 0) (known : Known) (journal : Kept) (next : Option (Option Database)) : Type 0 where
  pub behind : journal.broken ≡ false → IsBehind journal known
  pub begins : BeginsDump journal (history_of known)
  pub failed : journal.broken ≡ true → has_failed
  pub next_is : IfSome next (λ base. base ≡ Some (successor (now (history_of known))))
