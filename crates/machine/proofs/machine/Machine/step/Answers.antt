use Rattle.std.proofs.Common.{◌≡◌, ◌⊎◌, ◌∙◌, sym, ap, subst}
use Rattle.std.proofs.lemmas.Result.{on_ok_weaker}
use Rattle.model.specs.History.{base_of}
use Rattle.model.proofs.EntryLaws.{put_adds, swap_adds, others_add_nothing}
use Rattle.model.specs.World as model
use Rattle.machine.specs.Events.{event_of}
use Rattle.machine.specs.States.{State}
use Rattle.machine.proofs.machine.Machine.step.Goals as goal

pub returns-clause-put : goal.returns-clause-put
returns-clause-put c =
    let s = c.args.self.now in
    on_ok_weaker c.happen.result
    (λ h is some room. ap (λ (t : State). t.world.history) h ∙ ap (λ (e : model.Event). (model.step (base_of s.base) s.config s.world e).history) is ∙ put_adds (base_of s.base) s.config s.world some room)
    c.happen.ensures.stepped

pub returns-clause-swap : goal.returns-clause-swap
returns-clause-swap c =
    let s = c.args.self.now in
    on_ok_weaker c.happen.result
    (λ h is. subst (λ (u : model.World). (u.history ≡ s.world.history) ⊎ model.AddsCompact (base_of s.base) s.world u) (sym (ap (λ (t : State). t.world) h ∙ ap (model.step (base_of s.base) s.config s.world) is)) (swap_adds (base_of s.base) s.config s.world))
    c.happen.ensures.stepped

pub returns-clause-others : goal.returns-clause-others
returns-clause-others c =
    let s = c.args.self.now in
    on_ok_weaker c.happen.result
    (λ h no_put no_swap. ap (λ (t : State). t.world.history) h ∙ others_add_nothing (base_of s.base) s.config s.world (event_of c.args.event.now) no_put no_swap)
    c.happen.ensures.stepped
