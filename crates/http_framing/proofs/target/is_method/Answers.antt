use Rattle.std.proofs.Common.{rules, false, refl, subst}
use Rattle.httparse.specs.Grammar.{MayBecomeRequest, NeverHasRequest, EndsInTarget}
use Rattle.httparse.specs.Spans.{RequestExceeds}
use Rattle.http_framing.proofs.InTarget.{apart, no_method, head_begun, part_begun, many_begun}
use Rattle.http_framing.proofs.target.is_method.Goals as goal

pub returns-in-Err : goal.returns-in-Err
returns-in-Err c =
    let never : NeverHasRequest c.args.bytes.now = search rules in
    (λ no. absurd (apart false no refl), λ ends. absurd (no_method c.requires.0 c.requires.1 (subst NeverHasRequest c.requires.2 never) (subst EndsInTarget c.requires.2 ends)))

pub returns-in-Ok-Complete : goal.returns-in-Ok-Complete
returns-in-Ok-Complete c =
    let head = rw c.in-Ok-Complete.field-0-is at c.in-Ok-Complete.ensures.complete in
    (λ yes. head_begun c.requires head.0 _ head.1.reads, λ ends. refl)

pub returns-in-Ok-Partial : goal.returns-in-Ok-Partial
returns-in-Ok-Partial c =
    let may : MayBecomeRequest c.args.bytes.now = search rules in
    (λ yes. part_begun c.requires may, λ ends. refl)

pub returns-in-Ok-Partial-2 : goal.returns-in-Ok-Partial-2
returns-in-Ok-Partial-2 c =
    let many : RequestExceeds 1 c.args.bytes.now = search rules in
    (λ yes. many_begun c.requires 1 many, λ ends. refl)
