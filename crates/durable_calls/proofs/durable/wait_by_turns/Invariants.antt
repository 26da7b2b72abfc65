use Rattle.durable_calls.proofs.Waits.{Passed}
use Rattle.durable_calls.proofs.durable.wait_by_turns.Given as goal

-- with each turn so far nothing came
abbrev pub invariant-loop-turn : goal.invariant-loop-turn
invariant-loop-turn g l = Passed g.S.Viewer.goes g.S.Viewer.known l.fn.seq l._turn l.fn.session l.session
