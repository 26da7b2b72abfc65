-- What appends and syncs leave of a journal.
use Rattle.std.specs.Prelude.{◌≡◌, ◌⊎◌, ℕ, true, false, List, drop, Option, MatchBool}
use Rattle.std.specs.List.{flat_map}
use Rattle.std.specs.Io.KnownBytes.{append_known}
use Rattle.streams.specs.Counts.{CountRose}
use Rattle.model.specs.Command.{Entry}
use Rattle.history_dump.specs.Dump.{entry_line}
use Rattle.journal.specs.Files.{TakesAll, TakesSome}
use Rattle.journal.specs.Kept.{Kept}

-- the lines of the entries above a place, in order
abbrev pub lines_above : ℕ → List Entry → List ℕ
lines_above place es = flat_map entry_line (drop place es)

-- the file has grown by this line, all of it is covered, and there are no entries
abbrev pub begun_with : Option (List ℕ) → ℕ → List ℕ → Kept
begun_with taken failed line =
    record { taken = append_known taken line; covered = append_known taken line; failed = failed; place = 0; synced = 0; broken = false }

-- a journal over a file that had these bytes and so many failures, which got this line; it is broken where the write or the
-- sync failed
abbrev pub IsBegun : Option (List ℕ) → ℕ → List ℕ → Kept → Type 0
IsBegun taken failed line k = MatchBool k.broken (CountRose failed k.failed) (k ≡ begun_with taken failed line)

-- these bytes were appended, and the journal has so many entries now
pub record AppendsAll (old new : Kept) (bytes : List ℕ) (place : ℕ) : Type 0 where
  pub sound : old.broken ≡ false
  pub taken : TakesAll old.taken new.taken bytes
  pub same : new ≡ record old { taken = new.taken; place = place }

-- a beginning of these bytes, not all, was appended when the write failed
pub record AppendsSome (old new : Kept) (bytes : List ℕ) : Type 0 where
  pub sound : old.broken ≡ false
  pub taken : TakesSome old.taken new.taken bytes
  pub rose : CountRose old.failed new.failed
  pub same : new ≡ record old { taken = new.taken; failed = new.failed; broken = true }

-- it was broken before, and nothing was tried
pub record StaysBroken (old new : Kept) : Type 0 where
  pub broken : old.broken ≡ true
  pub same : new ≡ old

-- a failed append
abbrev pub FailsToAppend : Kept → Kept → List ℕ → Type 0
FailsToAppend old new bytes = AppendsSome old new bytes ⊎ StaysBroken old new

-- all that was appended is covered now
pub record Covers (old new : Kept) (place : ℕ) : Type 0 where
  pub sound : old.broken ≡ false
  pub place_is : place ≡ old.place
  pub same : new ≡ record old { covered = old.taken; synced = old.place }

-- a sync failed, and nothing more is covered than before
pub record CoversNoMore (old new : Kept) : Type 0 where
  pub sound : old.broken ≡ false
  pub rose : CountRose old.failed new.failed
  pub same : new ≡ record old { failed = new.failed; broken = true }

-- a failed sync
abbrev pub FailsToCover : Kept → Kept → Type 0
FailsToCover old new = CoversNoMore old new ⊎ StaysBroken old new
