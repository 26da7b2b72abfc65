use Rattle.std.proofs.Common.{◌≡◌, ◌≤◌, ℕ, List, ◌++◌, length}
use Rattle.std.specs.List.{AllZip}
use Rattle.replay_cli.specs.Lines.{lines}
use Rattle.replay_cli.specs.Places.{last_place}
use Rattle.replay_cli.specs.Reading.{IsRead}
use Rattle.replay_cli.proofs.read.read_entries.Given as goal

-- the lines in front of the rest are those of the entries
abbrev pub invariant-loop-rest : goal.invariant-loop-rest
invariant-loop-rest l =
    (taken : List (List ℕ))
    × (lines l.text ≡ taken ++ lines l.rest)
    × AllZip IsRead taken l.entries.items
    × (length l.entries.items ≤ last_place)

abbrev pub decreases-loop-rest : goal.decreases-loop-rest
decreases-loop-rest l = length l.rest
