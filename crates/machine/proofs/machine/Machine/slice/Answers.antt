use Rattle.std.proofs.Common.{◌≡◌, ◌-◌, ◌∙◌, sym, ap, subst}
use Rattle.std.specs.Prelude.{Some, None, option_map}
use Rattle.machine.specs.States.{State, stepped, state_of, open_copy}
use Rattle.std.proofs.lemmas.Result.{on_ok_weaker}
use Rattle.model.specs.History.{Extends}
use Rattle.model.specs.World.{Slice}
use Rattle.machine.specs.States.{IsMachine}
use Rattle.machine.proofs.KeptCopies.{slice_stepped}
use Rattle.machine.proofs.NextCopies.{under_way, slice_next, same_next}
use Rattle.machine.proofs.Outcome.{by_outcome}
use Rattle.machine.proofs.Steps.{slice_none}
use Rattle.machine.proofs.machine.Machine.slice.Goals as goal

pub returns-in_default-clause-stepped : goal.returns-in_default-clause-stepped
returns-in_default-clause-stepped c =
    c.self.view_is ∙ sym (slice_none c.args.self.now c.args.n (subst (λ (s : State). s.world.copy ≡ None) c.self.view_is (ap (option_map open_copy) c.in_default.is)))

pub invariant_of-self-2 : goal.invariant_of-self-2
invariant_of-self-2 c =
    let f = c.self.inside in
    let x = c.in-Some.copying in
    let y = c.slice_next.new.copying in
    by_outcome (open_copy y ≡ record (open_copy x) { left = x.compaction.left - c.args.n }) (open_copy y ≡ open_copy x)
    (IsMachine f.version (state_of f.version f.config f.waiting.items f.batch.items f.views.items (Some y) f.completed.items) f.views.items (Some y))
    c.slice_next.result c.slice_next.ensures.sliced c.slice_next.ensures.kept
    (λ is. slice_next f.version f.config f.waiting.items f.batch.items f.views.items f.copy f.completed.items c.args.n x y c.in-Some.is is c.slice_next.ensures.seen c.self.invariant)
    (λ is. let m = c.self.invariant in
    same_next f.version f.config f.waiting.items f.batch.items f.views.items f.copy f.completed.items x y c.in-Some.is is
    (subst (Extends f.version) (sym c.slice_next.ensures.seen) (under_way f.version f.config f.waiting.items f.batch.items f.views.items f.copy f.completed.items x c.in-Some.is m).follows) m)

pub returns-clause-stepped : goal.returns-clause-stepped
returns-clause-stepped c =
    let f = c.self.inside in
    on_ok_weaker c.slice_next.result
    (λ is. slice_stepped f.version f.config f.waiting.items f.batch.items f.views.items f.copy f.completed.items c.args.n c.in-Some.copying c.slice_next.new.copying c.in-Some.is is
    ∙ ap (λ (s : State). stepped s (Slice c.args.n)) c.self.view_is)
    c.slice_next.ensures.sliced
