-- Which texts nothing begins from.
use Rattle.std.specs.Prelude.{◌≡◌, ◌⊎◌, ◌<◌, ℕ, true, false, List, [], ◌++◌, length}
use Rattle.model.specs.History.{Chronicle, now}
use Rattle.history_json.specs.Lines.{is_one_line}
use Rattle.history_dump.specs.Dump.{dump_text, BeginsAt}
use Rattle.replay_cli.specs.Successors.{AreTooLarge, IsDumpOfLegal, IsLastEpoch, base_after}
use Rattle.replay_cli.specs.Successors as dumps
use Rattle.replay_cli.specs.Verdicts.{IsVerdict}
use Rattle.replay_cli.specs.declared.verdict.Verdict.{Verdict}
use Rattle.journal.specs.Replaying.{CanBeNext, IsEnd, IsOnlyDump, IsWhole}
use Rattle.journal.specs.Restoring.{goes_on, raises}
use Rattle.journal.specs.declared.restored.End.{End}
use Rattle.journal.specs.declared.restored.Raise.{Raise}

-- the first line begins no dump: it has its line feed, or is all that there is
pub record IsNoFirst (front line rest : List ℕ) : Type 0 where
  pub at_first : front ≡ []
  pub alone : IsWhole line ⊎ ((is_one_line line ≡ true) × (rest ≡ []))
  pub none : (history : Chronicle) → BeginsAt line history → ⊥

-- what is in front is the dump of a legal history, and the whole line behind it isn't that of the next entry, though it begins
-- within what was synced
pub record IsDamaged (synced : ℕ) (front line : List ℕ) : Type 0 where
  pub history : Chronicle
  pub legal : IsDumpOfLegal front history
  pub only : IsOnlyDump history
  pub whole : IsWhole line
  pub synced_behind : length front < synced
  pub refused : CanBeNext line (now history) (length history.entries) → ⊥

-- A verdict ends a start: that on the text up to the end of the line that begins at this byte.
pub record IsEndedBy (synced : ℕ) (v : Verdict) (at : ℕ) (text : List ℕ) : Type 0 where
  pub front : List ℕ
  pub line : List ℕ
  pub rest : List ℕ
  pub text_is : text ≡ front ++ (line ++ rest)
  pub at_is : at ≡ length front
  pub verdict : IsVerdict (front ++ line) v
  pub refused : dumps.IsRefused v
  pub why : IsNoFirst front line rest ⊎ IsDamaged synced front line

-- the history has room, but not for numbers that are raised, as they have to be
pub record IsRaisedTooFar (synced : ℕ) (raise : Raise) (text : List ℕ) : Type 0 where
  pub history : Chronicle
  pub tail : List ℕ
  pub end : End
  pub text_is : text ≡ dump_text history ++ tail
  pub legal : IsDumpOfLegal (dump_text history) history
  pub end_is : IsEnd synced (now history) (length history.entries) (length (dump_text history)) tail end
  pub raised : raises raise end ≡ true
  pub ends : goes_on raise end (length history.entries) ≡ false
  pub too_large : AreTooLarge (base_after true (now history))

-- no epoch can begin from what the text leaves
abbrev pub IsExhausted : ℕ → Raise → List ℕ → Type 0
IsExhausted synced raise text = IsLastEpoch false text ⊎ IsRaisedTooFar synced raise text
