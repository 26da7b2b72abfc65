use Rattle.std.proofs.Common.{refl}
use Rattle.updater_state.proofs.Slots.{takes_none}
use Rattle.updater_state.proofs.locked.Core.tell.Goals as goal

pub returns-then-not-has_outcome-clause-taken : goal.returns-then-not-has_outcome-clause-taken
returns-then-not-has_outcome-clause-taken g c = takes_none c.args.self.now c.args.session (c.if-not-has_outcome.ensures refl)
