use Rattle.std.proofs.Common.{subst, sym}
use Rattle.updater_state.specs.State.{State, Goes, gives_up}
use Rattle.updater_state.proofs.States.{Goes-same, Goes-put}
use Rattle.updater_state.proofs.locked.Core.round.Goals as goal

pub returns-in_default : goal.returns-in_default
returns-in_default g c =
    gives_up c.args.self.now c.put.new.self c.give_up.new.self
    (Goes-same g.J.Naming.base g.J.Opening.config c.args.self.now c.gather.new.self c.put.new.self c.gather.ensures c.in_default.ensures.kept) c.give_up.ensures.given_up

pub returns : goal.returns
returns g c =
    subst (λ (s : State). Goes g.J.Naming.base g.J.Opening.config c.args.self.now s) (sym c.show-shown.ensures)
    (Goes-put g.J.Naming.base g.J.Opening.config c.args.self.now c.gather.new.self c.put.new.self c.gather.ensures c.in-Ok.ensures.empty c.in-Ok.ensures.put)
