-- What a file's text leaves.
use Rattle.std.specs.Prelude.{◌≡◌, ℕ, ◌==◌, ◌&&◌, not, Bool, true, false, List, ◌++◌, length, Option, Some, MatchBool}
use Rattle.model.specs.Database.{Database}
use Rattle.model.specs.History.{Chronicle, now}
use Rattle.history_dump.specs.Dump.{dump_text}
use Rattle.replay_cli.specs.Successors.{IsDumpOfLegal, base_after}
use Rattle.journal.specs.Held.{begun}
use Rattle.journal.specs.Replaying.{IsEnd, IsOnlyDump}
use Rattle.journal.specs.declared.restored.End.{End}
use Rattle.journal.specs.declared.restored.End.TheVariants.{Whole, Cut, Torn}
use Rattle.journal.specs.declared.restored.Raise.{Raise}
use Rattle.journal.specs.declared.restored.Raise.TheVariants.{Never, IfTorn, BehindEntries, Always}
use Rattle.journal.specs.declared.restored.Restored.{Restored}

-- whether anything lies behind the lines that were taken
abbrev pub is_behind : End → Bool
is_behind Whole = false
is_behind Cut = true
is_behind Torn = true

-- whether the numbers of the next epoch are raised, behind a text that ends so
abbrev pub raises : Raise → End → Bool
raises Never end = false
raises IfTorn end = is_behind end
raises BehindEntries end = true
raises Always end = true

-- whether an epoch may go on in a file that has its first line alone
abbrev pub keeps_epoch : Raise → Bool
keeps_epoch Never = true
keeps_epoch IfTorn = true
keeps_epoch BehindEntries = true
keeps_epoch Always = false

-- whether a text is a first line and nothing else
abbrev pub is_first_alone : End → ℕ → Bool
is_first_alone Whole places = places == 0
is_first_alone Cut places = false
is_first_alone Torn places = false

-- whether the same epoch goes on in its file
abbrev pub goes_on : Raise → End → ℕ → Bool
goes_on raise end places = keeps_epoch raise && is_first_alone end places

-- The epoch goes on in its file, or the next one begins over the last database, in which no session has called, with its
-- update number raised or not.
pub record IsBegunFrom (raise : Raise) (r : Restored) (base : Option Database) (last : Database) : Type 0 where
  pub goes_on_is : r.goes_on ≡ goes_on raise r.end r.places
  pub raised_is : r.raised ≡ (raises raise r.end && not r.goes_on)
  pub version_is : MatchBool r.goes_on (r.version ≡ begun base) (r.version ≡ begun (Some (base_after r.raised last)))

-- The text is the dump of a legal history, and of no other, with an end behind it. What begins is what that history leaves.
pub record IsRestored (text : List ℕ) (synced : ℕ) (raise : Raise) (r : Restored) : Type 0 where
  pub history : Chronicle
  pub tail : List ℕ
  pub text_is : text ≡ dump_text history ++ tail
  pub legal : IsDumpOfLegal (dump_text history) history
  pub only : IsOnlyDump history
  pub places_is : r.places ≡ length history.entries
  pub taken_is : r.taken ≡ length (dump_text history)
  pub end_is : IsEnd synced (now history) r.places r.taken tail r.end
  pub begun_is : IsBegunFrom raise r history.base (now history)
