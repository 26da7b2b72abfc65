use Rattle.std.proofs.Common.{rules, ◌≡◌, ◌<◌, ◌≤◌, ◌∙◌, List, length, sym, ap, subst, arith}
use Rattle.std.specs.Prelude.{true, false, slice_get, Some}
use Rattle.machine.specs.declared.views.SessionView.{SessionView}
use Rattle.machine.specs.States.{State, stepped}
use Rattle.std.proofs.lemmas.Option.{slice_get-get_or}
use Rattle.model.specs.World.{Read, free_in}
use Rattle.machine.specs.Views.{views_of}
use Rattle.machine.proofs.Kept.{free-within, read_stepped}
use Rattle.machine.proofs.Next.{read_next, seen_by_view}
use Rattle.machine.proofs.Steps.{read_none}
use Rattle.machine.proofs.machine.Machine.read.Goals as goal

pub returns-then-not-is_free-clause-stepped : goal.returns-then-not-is_free-clause-stepped
returns-then-not-is_free-clause-stepped c =
    let f = c.self.inside in
    let busy : free_in (views_of f.views.items) c.args.session ≡ false = search rules in
    sym (read_none c.args.self.now c.args.session c.args.query.now (subst (λ (s : State). free_in s.world.views c.args.session ≡ false) c.self.view_is busy))

pub returns-in_default-clause-stepped : goal.returns-in_default-clause-stepped
returns-in_default-clause-stepped c =
    let f = c.self.inside in
    let free : free_in (views_of f.views.items) c.args.session ≡ true = search rules in
    let lt : c.args.session < length f.views.items = free-within f.views.items c.args.session free in
    let past : length c.deref-2.result.now ≤ c.args.session = c.in_default.ensures.lookup.3 in
    let same : length c.deref-2.result.now ≡ length f.views.items = ap (λ (vs : List SessionView). length vs) c.deref-2.ensures.value in
    absurd (omega (arith, lt, past, same))

pub invariant_of-self-2 : goal.invariant_of-self-2
invariant_of-self-2 c =
    let f = c.self.inside in
    let n = c.args.session in
    let x = c.in-Some.view.now in
    let free : free_in (views_of f.views.items) n ≡ true = search rules in
    let vs = c.deref-2.result.now in
    let at : slice_get f.views.items n ≡ Some x = subst (λ (xs : List SessionView). slice_get xs n ≡ Some x) c.deref-2.ensures.value (slice_get-get_or vs n x c.in-Some.ensures.lookup.3.0 ∙ sym (ap (λ (v : SessionView). Some v) c.in-Some.ensures.lookup.1)) in
    read_next f.version f.config f.waiting.items f.batch.items f.views.items f.copy f.completed.items n c.args.query.now x c.in_ok-call.call _ free at
    (seen_by_view f.version f.views.items n x at c.self.invariant.seen)
    c.in_ok-call.ensures c.in_ok-push.ensures.items c.self.invariant

pub returns-clause-stepped : goal.returns-clause-stepped
returns-clause-stepped c =
    let f = c.self.inside in
    let n = c.args.session in
    let x = c.in-Some.view.now in
    let free : free_in (views_of f.views.items) n ≡ true = search rules in
    let vs = c.deref-2.result.now in
    let at : slice_get f.views.items n ≡ Some x = subst (λ (xs : List SessionView). slice_get xs n ≡ Some x) c.deref-2.ensures.value (slice_get-get_or vs n x c.in-Some.ensures.lookup.3.0 ∙ sym (ap (λ (v : SessionView). Some v) c.in-Some.ensures.lookup.1)) in
    read_stepped f.version f.config f.waiting.items f.batch.items f.views.items f.copy f.completed.items n c.args.query.now x c.in_ok-call.call _ free at
    (seen_by_view f.version f.views.items n x at c.self.invariant.seen)
    c.in_ok-call.ensures c.in_ok-push.ensures.items
    ∙ ap (λ (s : State). stepped s (Read n c.args.query.now)) c.self.view_is
