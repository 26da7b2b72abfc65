use Rattle.updater_state.specs.State.{stays}
use Rattle.updater_state.proofs.States.{Goes-through}
use Rattle.updater_state.proofs.locked.Core.serve.Goals as goal

pub loop-init : goal.loop-init
loop-init g c = stays c.args.self.now

pub loop-preserved : goal.loop-preserved
loop-preserved g c = Goes-through g.J.Naming.base g.J.Opening.config c.args.self.now c.loop.self c.round.new.self c.loop.invariant c.round.ensures
