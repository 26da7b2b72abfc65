use Rattle.std.proofs.Common.{rules, ◌∙◌, List, ap}
use Rattle.machine.specs.States.{State, stepped}
use Rattle.model.specs.Command.{Job}
use Rattle.model.specs.World.{GiveUp}
use Rattle.machine.specs.Views.{all_free}
use Rattle.machine.proofs.Kept.{give_up_stepped}
use Rattle.machine.proofs.Next.{give_up_next}
use Rattle.machine.proofs.machine.Machine.give_up.Goals as goal

pub invariant_of-self : goal.invariant_of-self
invariant_of-self c =
    let f = c.self.inside in
    give_up_next f.version f.config f.waiting.items f.batch.items f.views.items f.copy f.completed.items c.clear.new.self.items c.free_all.new.views.items (c.free_all.ensures ∙ ap (λ (js : List Job). all_free f.views.items js) c.deref.ensures.value) (search rules) c.self.invariant

pub returns : goal.returns
returns c =
    let f = c.self.inside in
    give_up_stepped f.version f.config f.waiting.items f.batch.items f.views.items f.copy f.completed.items c.clear.new.self.items c.free_all.new.views.items c.self.invariant.batch (c.free_all.ensures ∙ ap (λ (js : List Job). all_free f.views.items js) c.deref.ensures.value) (search rules)
    ∙ ap (λ (s : State). stepped s GiveUp) c.self.view_is
