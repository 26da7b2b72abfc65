use Rattle.std.proofs.Common.{◌≡◌}
use Rattle.std.specs.Io.KnownBytes.{Consumes}
use Rattle.replay_cli.proofs.input.read_all.Given as goal

-- what has come is in the text, and nothing failed
abbrev pub invariant-loop-text : goal.invariant-loop-text
invariant-loop-text g l =
    Consumes (g.R.Source.left l.fn.reader) (g.R.Source.left l.reader) l.text.items
    × (g.R.Source.failed_reads l.reader ≡ g.R.Source.failed_reads l.fn.reader)

abbrev pub decreases-loop-text : goal.decreases-loop-text
decreases-loop-text g l = g.R.Source.budget l.reader
