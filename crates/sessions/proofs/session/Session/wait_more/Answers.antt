use Rattle.std.proofs.Common.{arith}
use Rattle.sessions.proofs.session.Session.wait_more.Goals as goal

pub returns-clause-looked : goal.returns-clause-looked
returns-clause-looked g c = λ no. omega (arith, c.loop-turn.invariant.counted, c.loop-turn-test.false)
