use Rattle.std.proofs.Common.{rules, ◌≡◌, ◌∙◌, List, length, sym, ap, subst}
use Rattle.std.specs.Prelude.{true, false, All}
use Rattle.model.specs.History.{Extends}
use Rattle.model.specs.World.{Look, free_in}
use Rattle.machine.specs.declared.views.SessionView.{SessionView}
use Rattle.machine.specs.States.{State, stepped}
use Rattle.machine.specs.Views.{views_of, seeing}
use Rattle.machine.proofs.Kept.{look_stepped, next_machine, Extends-itself}
use Rattle.machine.proofs.Steps.{look_none}
use Rattle.machine.proofs.ViewLists.{length-seeing, All-seeing}
use Rattle.machine.proofs.machine.Machine.look.Goals as goal

pub returns-then-not-is_free-clause-stepped : goal.returns-then-not-is_free-clause-stepped
returns-then-not-is_free-clause-stepped c =
    let f = c.self.inside in
    let busy : free_in (views_of f.views.items) c.args.session ≡ false = search rules in
    sym (look_none c.args.self.now c.args.session (subst (λ (s : State). free_in s.world.views c.args.session ≡ false) c.self.view_is busy))

pub returns-clause-stepped : goal.returns-clause-stepped
returns-clause-stepped c =
    let f = c.self.inside in
    let free : free_in (views_of f.views.items) c.args.session ≡ true = search rules in
    look_stepped f.version f.config f.waiting.items f.batch.items f.views.items f.copy f.completed.items c.args.session c.see.new.views.items free (search rules)
    ∙ ap (λ (s : State). stepped s (Look c.args.session)) c.self.view_is

pub invariant_of-self : goal.invariant_of-self
invariant_of-self c =
    let f = c.self.inside in
    let n = c.args.session in
    let m = c.self.invariant in
    let free : free_in (views_of f.views.items) n ≡ true = search rules in
    let sees : c.see.new.views.items ≡ seeing f.views.items (record { session = n; version = f.version }) = search rules in
    next_machine f.version f.config f.waiting.items f.batch.items f.views.items f.copy f.completed.items
    f.version f.waiting.items f.batch.items c.see.new.views.items f.copy f.completed.items (Look n)
    (look_stepped f.version f.config f.waiting.items f.batch.items f.views.items f.copy f.completed.items n c.see.new.views.items free sees)
    (ap (λ (vs : List SessionView). length vs) sees ∙ length-seeing f.views.items (record { session = n; version = f.version }))
    m.waiting m.batch
    (subst (All (λ x. Extends f.version x.version)) (sym sees) (All-seeing (λ x. Extends f.version x.version) f.views.items (record { session = n; version = f.version }) (Extends-itself f.version) m.seen))
    m.copying m
