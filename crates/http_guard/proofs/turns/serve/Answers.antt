use Rattle.std.proofs.Common.{ℕ, [], ◌∷◌, ◌++◌, length, drop, refl, ap, sym, ◌∙◌, subst, arith, rules, Ok, is_ok}
use Rattle.http_framing.specs.Refusal.{IsRefused}
use Rattle.http_framing.specs.Input.{IsUnfinished}
use Rattle.http_connection.specs.Served.{EndsInput}
use Rattle.http_connection.proofs.Fronts.{begins-request, length-after, unfinished}
use Rattle.http_guard.specs.Passage.{Passed}
use Rattle.http_guard.proofs.Decided.{closes-here, cut-here, never_cut, rose-here, same-here, whole-here}
use Rattle.http_guard.proofs.Going.{becomes-at, becomes-refused, passing-start, passing-on, passing-more, guarded-closed, guarded-cut, guarded-ended, guarded-read_fault}
use Rattle.http_guard.proofs.turns.serve.Goals as goal

pub turns-init : goal.turns-init
turns-init g c = ([], passing-start c.clear.ensures, omega (arith, ap length c.clear.ensures))

pub returns-in_default : goal.returns-in_default
returns-in_default g c =
    let window = c.turns.window.bytes in
    let rest = drop c.in-Request.spans.body.end window in
    let passage = c.pass-returned.ensures.passage in
    let r = c.pass-returned.result.1 in
    let becomes = becomes-at c.in-Request.spans.body.end window rest c.bytes-bytes.ensures refl passage.1 in
    rw c.after.ensures
    (guarded-cut passage.0 rest c.turns.invariant.1 becomes (passage.3 ∙ ap is_ok c.in_default.is) refl refl (cut-here _ _ _ r _ c.in_default.is passage.2)
    (rose-here _ _ r _ c.in_default.is c.pass-returned.ensures.failures))

pub returns-then-closes : goal.returns-then-closes
returns-then-closes g c =
    let window = c.turns.window.bytes in
    let rest = c.take.new.self.bytes in
    let passage = c.pass-returned.ensures.passage in
    let r = c.pass-returned.result.1 in
    let becomes = becomes-at c.in-Request.spans.body.end window rest c.bytes-bytes.ensures (c.take.ensures ∙ ap (λ (n : ℕ). drop n window) c.taken.ensures) passage.1 in
    rw c.after-then-closes.ensures
    (guarded-closed passage.0 rest c.turns.invariant.1 becomes (sym (closes-here r c.in-Ok.closes _ c.in-Ok.is passage.4) ∙ c.if-closes.true) (passage.3 ∙ ap is_ok c.in-Ok.is) refl refl
    (whole-here _ _ _ r _ c.in-Ok.is passage.2) (same-here _ _ r _ c.in-Ok.is c.pass-returned.ensures.failures))

pub turns-preserved-in-Request : goal.turns-preserved-in-Request
turns-preserved-in-Request g c =
    let window = c.turns.window.bytes in
    let rest = c.take.new.self.bytes in
    let taken = c.take.ensures ∙ ap (λ (n : ℕ). drop n window) c.taken.ensures in
    let begins = begins-request window rest c.bytes.ensures refl c.in-Request.ensures refl taken in
    let passage = c.pass-returned.ensures.passage in
    let r = c.pass-returned.result.1 in
    let becomes = becomes-at c.in-Request.spans.body.end window rest c.bytes-bytes.ensures taken passage.1 in (
      c.turns.invariant.0 ++ passage.0 ∷ [],
      passing-on passage.0 c.turns.invariant.1 becomes (sym (closes-here r c.in-Ok.closes _ c.in-Ok.is passage.4) ∙ c.if-closes.false) (passage.3 ∙ ap is_ok c.in-Ok.is) c.awaits.ensures.left c.awaits.ensures.failures
          (whole-here _ _ _ r _ c.in-Ok.is passage.2) (same-here _ _ r _ c.in-Ok.is c.pass-returned.ensures.failures),
      omega (arith, length-after _ _ _ begins, c.awaits.ensures.budget, c.turns.invariant.2),
    )

pub returns-in_default-refuse : goal.returns-in_default-refuse
returns-in_default-refuse g c =
    let turn = c.in_default-refuse.ensures.turn in
    let becomes = becomes-refused c.turns.window.bytes c.in-Refused.fault (subst (λ b. IsRefused b c.in-Refused.fault) c.bytes.ensures c.in-Refused.ensures) turn.1 (λ cut. omega (arith, turn.2.1.1)) in
    rw c.after-in_default-refuse.ensures (guarded-cut (Passed turn.0) [] c.turns.invariant.1 becomes turn.3 refl refl turn.2.1 c.in_default-refuse.ensures.failures.1)

pub returns-in-Refused : goal.returns-in-Refused
returns-in-Refused g c =
    let turn = c.in-Ok-refuse.ensures.turn in
    let becomes = becomes-refused c.turns.window.bytes c.in-Refused.fault (subst (λ b. IsRefused b c.in-Refused.fault) c.bytes.ensures c.in-Refused.ensures) turn.1 (never_cut turn.3) in
    rw c.after-in-Refused.ensures (guarded-closed (Passed turn.0) [] c.turns.invariant.1 becomes (turn.1.closes refl) turn.3 refl refl turn.2.0 c.in-Ok-refuse.ensures.failures.0)

pub returns-in_default-fill : goal.returns-in_default-fill
returns-in_default-fill g c =
    let grows = c.in_default-fill.ensures.grows in
    rw c.after-in_default-fill.ensures
    (guarded-read_fault grows.0 c.turns.invariant.1 grows.2 c.in_default-fill.ensures.failures.1 refl refl
    (subst IsUnfinished grows.1 (unfinished c.turns.window.bytes grows.0 c.in-More.ensures c.bytes.ensures grows.1 c.in_default-fill.ensures.part)))

pub returns-then-not-enough : goal.returns-then-not-enough
returns-then-not-enough g c =
    let grows = c.in-Ok-fill.ensures.grows in
    let end = c.in-Ok-fill.ensures.end (ap Ok (search rules)) in
    let ends = subst (EndsInput c.end_of_input.result) c.bytes-then-not-enough.ensures c.end_of_input.ensures in
    rw c.after-then-not-enough.ensures
    (guarded-ended c.end_of_input.result
    (passing-more grows.0 c.turns.invariant.1 grows.1 grows.2 c.in-Ok-fill.ensures.failures.0 refl refl)
    ends (unfinished c.turns.window.bytes grows.0 c.in-More.ensures c.bytes.ensures grows.1 end.0) end.1)

pub turns-preserved : goal.turns-preserved
turns-preserved g c =
    let grows = c.in-Ok-fill.ensures.grows in
    (c.turns.invariant.0, passing-more grows.0 c.turns.invariant.1 grows.1 grows.2 c.in-Ok-fill.ensures.failures.0 refl refl, omega (arith, c.in-Ok-fill.ensures.budget, c.turns.invariant.2))
