use Rattle.std.proofs.Common.{◌≡◌, ℕ, ◌+◌, ◌-◌, ◌≤◌, List, ◌++◌, length}
use Rattle.std.specs.Io.KnownBytes.{Consumes}
use Rattle.http_connection.proofs.window.Window.fill.Given as goal

-- a piece has come, and the rest of what is missing has room
abbrev pub invariant-loop-missing : goal.invariant-loop-missing
invariant-loop-missing g l =
    (piece : List ℕ)
    × (l.self.bytes ≡ l.fn.self.bytes ++ piece)
    × Consumes (g.R.Source.left l.fn.reader) (g.R.Source.left l.reader) piece
    × (l.missing ≡ l.more - length piece)
    × (l.missing ≤ l.self.room)
    × (g.R.Source.budget l.reader + length piece ≤ g.R.Source.budget l.fn.reader)
    × (g.R.Source.failed_reads l.reader ≡ g.R.Source.failed_reads l.fn.reader)

abbrev pub decreases-loop-missing : goal.decreases-loop-missing
decreases-loop-missing g l = l.missing
