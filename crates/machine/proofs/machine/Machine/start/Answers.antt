use Rattle.std.proofs.Common.{rules, ◌≡◌, ◌&&◌, ◌∙◌, sym, ap, subst}
use Rattle.std.specs.Prelude.{true, false, is_none, option_map}
use Rattle.machine.specs.States.{State, stepped, open_copy}
use Rattle.std.proofs.lemmas.Bool.{and_parts}
use Rattle.model.specs.World.{Start, free_in}
use Rattle.machine.specs.Views.{views_of}
use Rattle.machine.proofs.Kept.{free-within}
use Rattle.machine.proofs.KeptCopies.{start_stepped}
use Rattle.machine.proofs.NextCopies.{start_next}
use Rattle.machine.proofs.Steps.{start_none}
use Rattle.machine.proofs.machine.Machine.start.Goals as goal

pub returns-then-not-may_start-clause-stepped : goal.returns-then-not-may_start-clause-stepped
returns-then-not-may_start-clause-stepped c =
    let s = c.args.self.now in
    let no : (is_none s.world.copy && free_in s.world.views c.args.session) ≡ false = search rules in
    sym (start_none s c.args.session no)

pub invariant_of-self : goal.invariant_of-self
invariant_of-self c =
    let f = c.self.inside in
    let s = c.args.self.now in
    let n = c.args.session in
    let may : (is_none s.world.copy && free_in s.world.views n) ≡ true = search rules in
    let here : (is_none (option_map open_copy f.copy) && free_in (views_of f.views.items) n) ≡ true = subst (λ (t : State). (is_none t.world.copy && free_in t.world.views n) ≡ true) (sym c.self.view_is) may in
    start_next f.version f.config f.waiting.items f.batch.items f.views.items f.copy f.completed.items n c.in_ok-copying.copying _ _ here
    c.in_ok-copying.ensures.opened c.in_ok-copying.ensures.seen c.begin.ensures c.set_free.ensures c.self.invariant

pub returns-clause-stepped : goal.returns-clause-stepped
returns-clause-stepped c =
    let f = c.self.inside in
    let s = c.args.self.now in
    let n = c.args.session in
    let may : (is_none s.world.copy && free_in s.world.views n) ≡ true = search rules in
    let here : (is_none (option_map open_copy f.copy) && free_in (views_of f.views.items) n) ≡ true = subst (λ (t : State). (is_none t.world.copy && free_in t.world.views n) ≡ true) (sym c.self.view_is) may in
    start_stepped f.version f.config f.waiting.items f.batch.items f.views.items f.copy f.completed.items n c.in_ok-copying.copying _ _ here
    (free-within f.views.items n (and_parts (is_none (option_map open_copy f.copy)) _ here).1)
    c.in_ok-copying.ensures.opened c.begin.ensures c.set_free.ensures
    ∙ ap (λ (t : State). stepped t (Start n)) c.self.view_is
