use Rattle.std.proofs.Common.{length, ◌-◌, ◌≡◌, ◌≤◌, take}
use Rattle.std.specs.Io.KnownBytes.{Appends}
use Rattle.streams.proofs.writes.write_all.Given as goal

-- the bytes before `at` are written, and nothing failed
abbrev pub invariant-loop-at : goal.invariant-loop-at
invariant-loop-at g l =
    (l.at ≤ length l.bytes)
    × Appends (g.W.Sink.taken l.fn.writer) (g.W.Sink.taken l.writer) (take l.at l.bytes)
    × (g.W.Sink.failed_writes l.writer ≡ g.W.Sink.failed_writes l.fn.writer)

abbrev pub decreases-loop-at : goal.decreases-loop-at
decreases-loop-at g l = length l.bytes - l.at
