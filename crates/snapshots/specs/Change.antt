-- What a write changes of its document.
use Rattle.std.specs.Prelude.{◌≡◌, ⊤, Option, Result, Ok}
use Rattle.model.specs.Revision.{Rev}
use Rattle.model.specs.Command.{Id}
use Rattle.model.specs.Database.{Database, with_tree}
use Rattle.model.specs.declared.refusal.Refusal.{Refusal}
use Rattle.snapshots.specs.declared.database.stored.Change.{Change}
use Rattle.snapshots.specs.declared.database.stored.Change.TheVariants.{Nothing, NewTree}
use Rattle.snapshots.specs.declared.records.replaced.Replaced.{Replaced}

-- the revision that was written, or why none was
abbrev pub outcome_of : Change → Result Rev Refusal
outcome_of (Nothing outcome) = outcome
outcome_of (NewTree w known) = Ok w.rev

-- this is known of the record that a new tree takes the place of
abbrev pub IsOver : Option Replaced → Change → Type 0
IsOver replaced (Nothing outcome) = ⊤
IsOver replaced (NewTree w known) = known ≡ replaced

abbrev pub after_change : Database → Id → Change → Database
after_change d id (Nothing outcome) = d
after_change d id (NewTree w known) = with_tree d id w.tree
