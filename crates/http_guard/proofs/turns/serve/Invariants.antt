use Rattle.std.proofs.Common.{◌+◌, ◌*◌, ◌≤◌, List, length}
use Rattle.http_guard.specs.Passage.{Passage}
use Rattle.http_guard.proofs.Going.{Passing}
use Rattle.http_guard.proofs.turns.serve.Given as goal

-- the connection goes on with the window as its rest, and has taken two bytes for each request
abbrev pub invariant-turns : goal.invariant-turns
invariant-turns g l =
    (passages : List Passage)
    × Passing l.policy (g.S.Service.answers l.context)
    (record {
      left = g.R.Source.left l.fn.reader;
      failed_reads = g.R.Source.failed_reads l.fn.reader;
      taken = g.W.Sink.taken l.fn.writer;
      failed_writes = g.W.Sink.failed_writes l.fn.writer;
    })
    (record {
      left = g.R.Source.left l.reader;
      failed_reads = g.R.Source.failed_reads l.reader;
      taken = g.W.Sink.taken l.writer;
      failed_writes = g.W.Sink.failed_writes l.writer;
    })
    l.fn.service l.service l.answered passages l.window.bytes
    × (2 * l.answered + length l.window.bytes + g.R.Source.budget l.reader ≤ g.R.Source.budget l.fn.reader)

-- a request takes bytes from the window, and a read brings them there
abbrev pub decreases-turns : goal.decreases-turns
decreases-turns g l = 2 * g.R.Source.budget l.reader + length l.window.bytes
