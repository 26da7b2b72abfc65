use Rattle.updater_state.specs.State.{stays}
use Rattle.updater_state.proofs.States.{Goes-pops}
use Rattle.updater_state.proofs.locked.Core.gather.Goals as goal

pub loop-init : goal.loop-init
loop-init g c = stays c.args.self.now

pub loop-preserved : goal.loop-preserved
loop-preserved g c = Goes-pops g.J.Naming.base g.J.Opening.config c.args.self.now c.loop.self c.pop.new.self c.loop.invariant c.if-not-pop.ensures
