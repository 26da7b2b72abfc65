use Rattle.std.proofs.Common.{◌≡◌, ◌≤◌, ◌-◌, length, take}
use Rattle.std.specs.List.{flat_map}
use Rattle.std.specs.Io.KnownBytes.{Appends}
use Rattle.api_json.specs.Changes.{feed_line}
use Rattle.http_turns.proofs.progress.write_rows.Given as goal

-- the rows before `at` are written, and nothing failed
abbrev pub invariant-loop-at : goal.invariant-loop-at
invariant-loop-at g l =
    (l.at ≤ length l.rows)
    × Appends (g.W.Sink.taken l.fn.writer) (g.W.Sink.taken l.writer) (flat_map feed_line (take l.at l.rows))
    × (g.W.Sink.failed_writes l.writer ≡ g.W.Sink.failed_writes l.fn.writer)

abbrev pub decreases-loop-at : goal.decreases-loop-at
decreases-loop-at g l = length l.rows - l.at
