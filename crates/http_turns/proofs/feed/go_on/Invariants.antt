use Rattle.std.proofs.Common.{◌≡◌, ℕ, List}
use Rattle.std.specs.Io.KnownBytes.{Appends}
use Rattle.http_turns.proofs.Feeds.{Going}
use Rattle.http_turns.proofs.feed.go_on.Given as goal

abbrev pub invariant-loop-turn : goal.invariant-loop-turn
invariant-loop-turn g l =
    (text : List ℕ)
    × Going g.S.Viewer.goes g.S.Viewer.known l.setting l.fn.session l.session l.fn.start l.progress text
    × Appends (g.W.Sink.taken l.fn.writer) (g.W.Sink.taken l.writer) text
    × (g.W.Sink.failed_writes l.writer ≡ g.W.Sink.failed_writes l.fn.writer)
