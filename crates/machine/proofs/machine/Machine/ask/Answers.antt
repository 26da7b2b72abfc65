use Rattle.std.proofs.Common.{rules, ◌≡◌, ◌<◌, ◌≤◌, ◌&&◌, ◌∙◌, length, not, sym, ap, subst, arith}
use Rattle.std.specs.Prelude.{ℕ, true, false, nat_lt}
use Rattle.machine.specs.States.{State, stepped}
use Rattle.std.proofs.lemmas.Bool.{and_parts, false≢true}
use Rattle.model.specs.Command.{Seat}
use Rattle.model.specs.World.{Ask, free_in, is_compact}
use Rattle.machine.specs.Views.{views_of}
use Rattle.machine.proofs.Kept.{free-within, ask_stepped}
use Rattle.machine.proofs.Next.{ask_next}
use Rattle.machine.proofs.Steps.{ask_none}
use Rattle.machine.proofs.machine.Machine.ask.Goals as goal

abbrev seat_of : ℕ → ℕ → Seat
seat_of session call = record { session = session; call = call }

pub returns-then-not-may_ask-clause-stepped : goal.returns-then-not-may_ask-clause-stepped
returns-then-not-may_ask-clause-stepped c =
    let s = c.args.self.now in
    let no : (free_in s.world.views c.args.session && not (is_compact c.args.command.now) && nat_lt (length s.world.waiting) s.config.queue) ≡ false = search rules in
    sym (ask_none s c.args.session c.args.command.now no)

pub unreachable-requires : goal.unreachable-requires
unreachable-requires c =
    let f = c.self.inside in
    let s = c.args.self.now in
    let n = c.args.session in
    let may : (free_in s.world.views n && not (is_compact c.args.command.now) && nat_lt (length s.world.waiting) s.config.queue) ≡ true = search rules in
    let free : free_in (views_of f.views.items) n ≡ true = subst (λ (t : State). free_in t.world.views n ≡ true) (sym c.self.view_is) (and_parts _ _ (and_parts _ _ may).0).0 in
    let lt : n < length f.views.items = free-within f.views.items n free in
    let few : length f.views.items ≤ 64 = c.self.invariant.few in
    let low : n < 64 = omega (arith, lt, few) in
    false≢true (c.in_default.ensures.in_range.1 (low, omega arith))

pub invariant_of-self-2 : goal.invariant_of-self-2
invariant_of-self-2 c =
    let f = c.self.inside in
    let s = c.args.self.now in
    let n = c.args.session in
    let q = c.args.command.now in
    let may : (free_in s.world.views n && not (is_compact q) && nat_lt (length s.world.waiting) s.config.queue) ≡ true = search rules in
    let here : (free_in (views_of f.views.items) n && not (is_compact q) && nat_lt (length f.waiting.items) f.config.queue) ≡ true = subst (λ (t : State). (free_in t.world.views n && not (is_compact q) && nat_lt (length t.world.waiting) t.config.queue) ≡ true) (sym c.self.view_is) may in
    ask_next f.version f.config f.waiting.items f.batch.items f.views.items f.copy f.completed.items n q
    (record { seat = c.in-Some.seat; command = c.in_ok-command.command }) _ _ here
    (λ i. record { seat = (c.in-Some.ensures.seat ∙ ap (seat_of n) c.next_call.ensures) i; command = c.in_ok-command.ensures.same i })
    c.in_ok-push_back.ensures.items c.set_free.ensures c.self.invariant

pub returns-clause-stepped : goal.returns-clause-stepped
returns-clause-stepped c =
    let f = c.self.inside in
    let s = c.args.self.now in
    let n = c.args.session in
    let q = c.args.command.now in
    let may : (free_in s.world.views n && not (is_compact q) && nat_lt (length s.world.waiting) s.config.queue) ≡ true = search rules in
    let here : (free_in (views_of f.views.items) n && not (is_compact q) && nat_lt (length f.waiting.items) f.config.queue) ≡ true = subst (λ (t : State). (free_in t.world.views n && not (is_compact q) && nat_lt (length t.world.waiting) t.config.queue) ≡ true) (sym c.self.view_is) may in
    ask_stepped f.version f.config f.waiting.items f.batch.items f.views.items f.copy f.completed.items n q
    (record { seat = c.in-Some.seat; command = c.in_ok-command.command }) _ _ here
    (free-within f.views.items n (and_parts _ _ (and_parts _ _ here).0).0)
    (λ i. record { seat = (c.in-Some.ensures.seat ∙ ap (seat_of n) c.next_call.ensures) i; command = c.in_ok-command.ensures.same i })
    c.in_ok-push_back.ensures.items c.set_free.ensures
    ∙ ap (λ (t : State). stepped t (Ask n q)) c.self.view_is
