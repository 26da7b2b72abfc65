-- What follows the dump of a legal history.
use Rattle.std.specs.Prelude.{◌≡◌, ℕ, ◌+◌, ◌<◌, ◌≤◌, ◌⊎◌, Bool, true, false, List, Some, Result, Ok, Err, ⊤}
use Rattle.std.specs.declared.alloc.Global.{Global}
use Rattle.std.specs.declared.vec.Vec.{Vec}
use Rattle.model.specs.Database.{Database}
use Rattle.model.specs.History.{Chronicle, IsLegal, base_of, now, successor, largest_base}
use Rattle.history_dump.specs.Dump.{first_line}
use Rattle.replay_cli.specs.Verdicts.{IsDump, IsVerdict}
use Rattle.replay_cli.specs.declared.verdict.Verdict.{Verdict}
use Rattle.replay_cli.specs.declared.verdict.Verdict.TheVariants as verdict
use Rattle.replay_cli.specs.declared.successor.NoSuccessor.{NoSuccessor}
use Rattle.replay_cli.specs.declared.successor.NoSuccessor.TheVariants as none

-- the text is the dump of this history, which is legal
pub record IsDumpOfLegal (text : List ℕ) (history : Chronicle) : Type 0 where
  pub dump : IsDump text history
  pub legal : IsLegal (base_of history.base) history.entries

-- how far the next epoch raises the update number after an end that may have lost numbers that were shown
abbrev pub raise : ℕ
raise = 16777216

-- the same, where the next update gets a number above all that may have been shown
abbrev pub raised : Database → Database
raised d = record d { update_seq = d.update_seq + raise }

-- the base of the epoch that follows one which ends with this database, with its update number raised or not
abbrev pub base_after : Bool → Database → Database
base_after false d = successor d
base_after true d = raised (successor d)

-- a history can have such a base
pub record HasRoom (d : Database) : Type 0 where
  pub updates : d.update_seq ≤ largest_base
  pub purges : d.purges.purge_seq ≤ largest_base

-- no history can
abbrev pub AreTooLarge : Database → Type 0
AreTooLarge d = (largest_base < d.update_seq) ⊎ (largest_base < d.purges.purge_seq)

-- the line is the first one of the dump of what follows, with its update number raised or not
pub record IsSuccessorLine (is_raised : Bool) (text line : List ℕ) : Type 0 where
  pub history : Chronicle
  pub before : IsDumpOfLegal text history
  pub room : HasRoom (base_after is_raised (now history))
  pub line_is : line ≡ first_line (Some (base_after is_raised (now history)))

-- nothing can follow, for a number is too large
pub record IsLastEpoch (is_raised : Bool) (text : List ℕ) : Type 0 where
  pub history : Chronicle
  pub before : IsDumpOfLegal text history
  pub too_large : AreTooLarge (base_after is_raised (now history))

-- a verdict that nothing can follow
abbrev pub IsRefused : Verdict → Type 0
IsRefused (verdict.Legal places) = ⊥
IsRefused (verdict.WrongAt place) = ⊤
IsRefused (verdict.UnreadableLine number) = ⊤

-- what is found of a text, which has a line that follows or a reason to have none
abbrev pub IsFollowedBy : Bool → List ℕ → Result (Vec ℕ Global) NoSuccessor → Type 0
IsFollowedBy is_raised text (Ok line) = IsSuccessorLine is_raised text line.items
IsFollowedBy is_raised text (Err none.NumbersTooLarge) = IsLastEpoch is_raised text
IsFollowedBy is_raised text (Err (none.Judged verdict)) = IsVerdict text verdict × IsRefused verdict
