use Rattle.std.proofs.Common.{◌≡◌, ◌-◌, ◌≤◌, take, drop}
use Rattle.std.specs.Io.KnownBytes.{Appends}
use Rattle.http_guard.specs.declared.extended.Phase.TheVariants as phase
use Rattle.http_guard.proofs.extended.Extended.write_lines.Given as goal

-- the lines were written from the one place to the other, and the phase says so
abbrev pub invariant-loop-at : goal.invariant-loop-at
invariant-loop-at g l =
    (l.from ≤ l.at)
    × Appends (g.W.Sink.taken l.fn.self.writer) (g.W.Sink.taken l.self.writer) (take (l.at - l.from) (drop l.from g.K.Start.lines))
    × (l.fn.self.phase ≡ phase.Lines l.from → l.self.phase ≡ phase.Lines l.at)
    × (g.W.Sink.failed_writes l.self.writer ≡ g.W.Sink.failed_writes l.fn.self.writer)

abbrev pub decreases-loop-at : goal.decreases-loop-at
decreases-loop-at g l = l.len - l.at
