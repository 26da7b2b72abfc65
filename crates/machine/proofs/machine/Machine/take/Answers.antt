use Rattle.std.proofs.Common.{rules, ◌≡◌, ◌==◌, ◌∙◌, length, take, drop, min, sym, ap, subst, arith}
use Rattle.std.specs.Prelude.{true, false}
use Rattle.machine.specs.States.{State, stepped}
use Rattle.std.proofs.lemmas.List.{take_min, drop_min}
use Rattle.model.specs.World.{Config, Take}
use Rattle.machine.proofs.Kept.{take_stepped}
use Rattle.machine.proofs.Next.{take_next}
use Rattle.machine.proofs.Steps.{take_none}
use Rattle.machine.proofs.machine.Machine.take.Goals as goal

pub returns-then-not-is_empty-clause-stepped : goal.returns-then-not-is_empty-clause-stepped
returns-then-not-is_empty-clause-stepped c =
    let f = c.self.inside in
    let some : (length f.batch.items == 0) ≡ false = search rules in
    sym (take_none c.args.self.now c.args.n (subst (λ (s : State). (length s.world.batch == 0) ≡ false) c.self.view_is some))

pub invariant_of-self-2 : goal.invariant_of-self-2
invariant_of-self-2 c =
    let f = c.self.inside in
    let most = min c.args.n f.config.gather in
    let none : (length f.batch.items == 0) ≡ true = search rules in
    let gather : c.limits-limits.result.gather ≡ f.config.gather = ap (λ (l : Config). l.gather) c.limits-limits.ensures.limits in
    let count : c.min-n-2.result ≡ min most (length f.waiting.items) = omega (arith, gather) in
    take_next f.version f.config f.waiting.items f.batch.items f.views.items f.copy f.completed.items c.args.n _ _ none
    (c.take_jobs.ensures.batch ∙ ap (λ k. take k f.waiting.items) count ∙ take_min most f.waiting.items)
    (c.take_jobs.ensures.waiting ∙ ap (λ k. drop k f.waiting.items) count ∙ drop_min most f.waiting.items)
    c.self.invariant

pub returns-clause-stepped : goal.returns-clause-stepped
returns-clause-stepped c =
    let f = c.self.inside in
    let most = min c.args.n f.config.gather in
    let none : (length f.batch.items == 0) ≡ true = search rules in
    let gather : c.limits-limits.result.gather ≡ f.config.gather = ap (λ (l : Config). l.gather) c.limits-limits.ensures.limits in
    let count : c.min-n-2.result ≡ min most (length f.waiting.items) = omega (arith, gather) in
    take_stepped f.version f.config f.waiting.items f.batch.items f.views.items f.copy f.completed.items c.args.n c.args.n _ _ none
    (c.take_jobs.ensures.batch ∙ ap (λ k. take k f.waiting.items) count ∙ take_min most f.waiting.items)
    (c.take_jobs.ensures.waiting ∙ ap (λ k. drop k f.waiting.items) count ∙ drop_min most f.waiting.items)
    ∙ ap (λ (s : State). stepped s (Take c.args.n)) c.self.view_is
