use Rattle.std.proofs.Common.{arith, ap, sym, ◌∙◌, ◌+◌, Ok}
use Rattle.std.proofs.lemmas.List.{take_all}
use Rattle.std.proofs.lemmas.Str.Parse.{digits_value-take-le}
use Rattle.std.specs.Str.Parse.{digits_value}
use Rattle.http_framing.proofs.Digits.{length_said-no_digits, length_said-large, length_said-digits, value_more, digit_at}
use Rattle.http_framing.proofs.headers.length_said.Goals as goal

pub returns-then-not-is_digits : goal.returns-then-not-is_digits
returns-then-not-is_digits c = length_said-no_digits _ (sym c.is_digits.ensures.digits ∙ c.if-not-is_digits.true)

pub overflow_sub-len : goal.overflow_sub-len
overflow_sub-len c = (digit_at _ _ (sym c.is_digits.ensures.digits ∙ c.if-not-is_digits.false) c.loop-b-test.true).0

pub returns-then-len-gt-BODY_LIMIT : goal.returns-then-len-gt-BODY_LIMIT
returns-then-len-gt-BODY_LIMIT c =
    let digits = sym c.is_digits.ensures.digits ∙ c.if-not-is_digits.false in
    let more = value_more c.args.value.now c.loop-b.b-index c.loop-b.len digits c.loop-b-test.true c.loop-b.invariant.0 in
    length_said-large _ digits (omega (arith, more, digits_value-take-le 10 c.args.value.now (c.loop-b.b-index + 1)))

pub loop-b-preserved : goal.loop-b-preserved
loop-b-preserved c =
    let digits = sym c.is_digits.ensures.digits ∙ c.if-not-is_digits.false in
    (value_more c.args.value.now c.loop-b.b-index c.loop-b.len digits c.loop-b-test.true c.loop-b.invariant.0, c.if-len-gt-BODY_LIMIT.false)

pub returns : goal.returns
returns c =
    let digits = sym c.is_digits.ensures.digits ∙ c.if-not-is_digits.false in
    let all = c.loop-b.invariant.0 ∙ ap (digits_value 10) (take_all c.loop-b.b-index c.args.value.now c.loop-b-test.false) in
    ap Ok all ∙ length_said-digits _ digits (omega (arith, all, c.loop-b.invariant.1))
