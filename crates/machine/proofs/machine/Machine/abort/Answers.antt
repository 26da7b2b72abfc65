use Rattle.std.proofs.Common.{◌≡◌, ◌∙◌, sym, ap, subst}
use Rattle.std.specs.Prelude.{None, option_map}
use Rattle.machine.specs.States.{State, stepped, open_copy}
use Rattle.model.specs.World.{Abort}
use Rattle.machine.proofs.KeptCopies.{abort_stepped}
use Rattle.machine.proofs.NextCopies.{under_way, abort_next}
use Rattle.machine.proofs.Steps.{abort_none}
use Rattle.machine.proofs.machine.Machine.abort.Goals as goal

pub returns-in_default : goal.returns-in_default
returns-in_default c =
    sym (abort_none c.args.self.now (subst (λ (s : State). s.world.copy ≡ None) c.self.view_is (ap (option_map open_copy) c.in_default.is)))

pub invariant_of-self : goal.invariant_of-self
invariant_of-self c =
    let f = c.self.inside in
    abort_next f.version f.config f.waiting.items f.batch.items f.views.items f.copy f.completed.items c.in-Some.copying _ _ c.in-Some.is c.end.ensures c.set_free.ensures c.self.invariant

pub returns : goal.returns
returns c =
    let f = c.self.inside in
    let x = c.in-Some.copying in
    abort_stepped f.version f.config f.waiting.items f.batch.items f.views.items f.copy f.completed.items x _ _ c.in-Some.is
    (under_way f.version f.config f.waiting.items f.batch.items f.views.items f.copy f.completed.items x c.in-Some.is c.self.invariant).session
    c.end.ensures c.set_free.ensures
    ∙ ap (λ (s : State). stepped s Abort) c.self.view_is
