use Rattle.std.proofs.Common.{ℕ, [], ◌∷◌, ◌++◌, length, drop, refl, ap, sym, ◌∙◌, subst, arith, rules, Ok}
use Rattle.http_framing.specs.Input.{IsUnfinished}
use Rattle.http_connection.specs.Served.{EndsInput}
use Rattle.http_connection.proofs.Fronts.{begins-request, begins-refused, length-after, unfinished}
use Rattle.http_connection.proofs.Going.{going-start, going-on, going-more, served-closed, served-cut, served-ended, served-read_fault}
use Rattle.http_connection.proofs.turns.serve.Goals as goal

pub turns-init : goal.turns-init
turns-init g c = ([], going-start c.clear.ensures, omega (arith, ap length c.clear.ensures))

pub returns-in_default : goal.returns-in_default
returns-in_default g c =
    let rest = drop c.in-Request.spans.body.end c.turns.window.bytes in
    let begins = begins-request c.turns.window.bytes rest c.bytes.ensures c.bytes-in-Request.ensures c.in-Request.ensures c.request-request.ensures refl in
    let turn = c.in_default.ensures.turn in
    rw c.after.ensures (served-cut rest c.turns.invariant.1 turn.1 begins turn.3 refl refl turn.2.1 c.in_default.ensures.failures.1)

pub returns-then-closes : goal.returns-then-closes
returns-then-closes g c =
    let rest = c.take.new.self.bytes in
    let begins = begins-request c.turns.window.bytes rest c.bytes.ensures c.bytes-in-Request.ensures c.in-Request.ensures c.request-request.ensures (c.take.ensures ∙ ap (λ (n : ℕ). drop n c.turns.window.bytes) c.taken.ensures) in
    let turn = c.in-Ok.ensures.turn in
    rw c.after-then-closes.ensures
    (served-closed rest c.turns.invariant.1 turn.1 begins (sym turn.4 ∙ c.if-closes.true) turn.3 refl refl turn.2.0 c.in-Ok.ensures.failures.0)

pub turns-preserved-in-Request : goal.turns-preserved-in-Request
turns-preserved-in-Request g c =
    let begins = begins-request c.turns.window.bytes c.take.new.self.bytes c.bytes.ensures c.bytes-in-Request.ensures c.in-Request.ensures c.request-request.ensures (c.take.ensures ∙ ap (λ (n : ℕ). drop n c.turns.window.bytes) c.taken.ensures) in
    let turn = c.in-Ok.ensures.turn in (
      c.turns.invariant.0 ++ turn.0 ∷ [],
      going-on c.turns.invariant.1 turn.1 begins (sym turn.4 ∙ c.if-closes.false) turn.3 c.awaits.ensures.left c.awaits.ensures.failures turn.2.0 c.in-Ok.ensures.failures.0,
      omega (arith, length-after _ _ _ begins, c.awaits.ensures.budget, c.turns.invariant.2),
    )

pub returns-in_default-refuse : goal.returns-in_default-refuse
returns-in_default-refuse g c =
    let begins = begins-refused c.turns.window.bytes c.in-Refused.fault c.bytes.ensures c.in-Refused.ensures in
    let turn = c.in_default-refuse.ensures.turn in
    rw c.after-in_default-refuse.ensures (served-cut [] c.turns.invariant.1 turn.1 begins turn.3 refl refl turn.2.1 c.in_default-refuse.ensures.failures.1)

pub returns-in-Refused : goal.returns-in-Refused
returns-in-Refused g c =
    let begins = begins-refused c.turns.window.bytes c.in-Refused.fault c.bytes.ensures c.in-Refused.ensures in
    let turn = c.in-Ok-refuse.ensures.turn in
    rw c.after-in-Refused.ensures (served-closed [] c.turns.invariant.1 turn.1 begins (turn.1.closes refl) turn.3 refl refl turn.2.0 c.in-Ok-refuse.ensures.failures.0)

pub returns-in_default-fill : goal.returns-in_default-fill
returns-in_default-fill g c =
    let grows = c.in_default-fill.ensures.grows in
    rw c.after-in_default-fill.ensures
    (served-read_fault grows.0 c.turns.invariant.1 grows.2 c.in_default-fill.ensures.failures.1 refl refl
    (subst IsUnfinished grows.1 (unfinished c.turns.window.bytes grows.0 c.in-More.ensures c.bytes.ensures grows.1 c.in_default-fill.ensures.part)))

pub returns-then-not-enough : goal.returns-then-not-enough
returns-then-not-enough g c =
    let grows = c.in-Ok-fill.ensures.grows in
    let end = c.in-Ok-fill.ensures.end (ap Ok (search rules)) in
    let rest = c.fill.new.self.bytes in
    let ends = subst (EndsInput c.end_of_input.result) c.bytes-then-not-enough.ensures c.end_of_input.ensures in
    rw c.after-then-not-enough.ensures
    (served-ended c.end_of_input.result
    (going-more grows.0 c.turns.invariant.1 grows.1 grows.2 c.in-Ok-fill.ensures.failures.0 refl refl)
    ends (unfinished c.turns.window.bytes grows.0 c.in-More.ensures c.bytes.ensures grows.1 end.0) end.1)

pub turns-preserved : goal.turns-preserved
turns-preserved g c =
    let grows = c.in-Ok-fill.ensures.grows in
    (c.turns.invariant.0, going-more grows.0 c.turns.invariant.1 grows.1 grows.2 c.in-Ok-fill.ensures.failures.0 refl refl, omega (arith, c.in-Ok-fill.ensures.budget, c.turns.invariant.2))
