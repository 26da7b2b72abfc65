use Rattle.updater_state.specs.State.{Goes}
use Rattle.updater_state.proofs.locked.Core.gather.Given as goal

abbrev pub invariant-loop : goal.invariant-loop
invariant-loop g l = Goes g.J.Naming.base g.J.Opening.config l.fn.self l.self
