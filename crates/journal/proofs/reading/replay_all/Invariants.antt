use Rattle.std.proofs.Common.{ℕ, ◌-◌, ◌≤◌, List}
use Rattle.std.specs.Prelude.{Option}
use Rattle.model.specs.Database.{Database}
use Rattle.replay_cli.specs.Places.{last_place}
use Rattle.journal.specs.Replaying.{IsReplayed}
use Rattle.journal.proofs.reading.replay_all.Given as goal

-- what was known at the beginning is known after each entry
abbrev pub invariant-entries : goal.invariant-entries
invariant-entries g l =
    ((base : Option Database) (start : Option (List ℕ)) → IsReplayed base start (g.R.Read.remaining l.fn.reader) l.fn.replayed.database l.fn.replayed.place l.fn.replayed.taken
    → IsReplayed base start (g.R.Read.remaining l.reader) l.replayed.database l.replayed.place l.replayed.taken)
    × (l.replayed.place ≤ last_place)

abbrev pub decreases-entries : goal.decreases-entries
decreases-entries g l = last_place - l.replayed.place
