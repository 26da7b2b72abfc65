use Rattle.http_turns.proofs.Waits.{Passed}
use Rattle.http_turns.proofs.waiting.wait_for_some.Given as goal

-- with each turn so far none of the documents came
abbrev pub invariant-loop-turn : goal.invariant-loop-turn
invariant-loop-turn g l = Passed g.S.Viewer.goes g.S.Viewer.known l.cursor l.ids l._turn l.fn.session l.session
