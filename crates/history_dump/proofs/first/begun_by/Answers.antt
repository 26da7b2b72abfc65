use Rattle.std.proofs.Common.{◌≡◌, List, ℕ, Some, sym, ap, ◌∙◌}
use Rattle.history_dump.specs.Dump.{first_text}
use Rattle.history_dump.proofs.Begun.{named_none, named_over}
use Rattle.history_dump.proofs.first.begun_by.Goals as goal

once : (x y : List ℕ) → Some x ≡ Some y → x ≡ y
once x y is = cc

pub returns-in_default-clause-found : goal.returns-in_default-clause-found
returns-in_default-clause-found c = λ v begins.
    let none = rw c.in_default.is at (c.without_feed.ensures (first_text v.base) begins.line_is) in
    absurd (cc)

pub returns-then-is_text-clause-found : goal.returns-then-is_text-clause-found
returns-then-is_text-clause-found c = λ v begins.
    let text : c.in-Some.text.now ≡ first_text v.base = once _ _ (rw c.in-Some.is at (c.without_feed.ensures (first_text v.base) begins.line_is)) in
    let form = c.is_text.ensures.0 c.if-is_text.true in
    ap Some (c.empty.ensures ∙ named_none v begins.entries (sym text ∙ form))

pub returns-clause-found : goal.returns-clause-found
returns-clause-found c = λ v begins.
    let text : c.in-Some.text.now ≡ first_text v.base = once _ _ (rw c.in-Some.is at (c.without_feed.ensures (first_text v.base) begins.line_is)) in
    named_over c.begun_over.result c.in-Some.text.now v begins.entries begins.first text
    (λ form. let yes = c.is_text.ensures.1 form in let no = c.if-is_text.false in absurd (cc)) c.begun_over.ensures.found
