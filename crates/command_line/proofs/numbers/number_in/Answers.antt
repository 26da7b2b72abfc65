use Rattle.std.proofs.Common.{◌<◌, ◌^◌, arith}
use Rattle.command_line.proofs.Given.{read_number, no_number, one_number}
use Rattle.command_line.proofs.numbers.number_in.Goals as goal
use Rattle.command_line.proofs.numbers.number_in.Goals.{then-number-least-via-then-number-least, then-number-least-via-else-number-least+then-most-number}

pub returns-in_default-clause-no_number : goal.returns-in_default-clause-no_number
returns-in_default-clause-no_number c = λ number is least most.
    let small : number < 2 ^ 64 = omega (arith, c.ranges.most.fits) in
    no_number c.args.text.now number c.parse.result c.parse.ensures.value.0 _ c.in_default.is is small

pub returns-then-number-least-clause-no_number : goal.returns-then-number-least-clause-no_number
returns-then-number-least-clause-no_number c = λ number is least most.
    let here = read_number c.args.text.now c.in-Ok.number c.parse.result c.parse.ensures.value.0 c.in-Ok.is in
    let same = one_number c.args.text.now number c.in-Ok.number is here in
    elim c.then-number-least.branch [
      | then-number-least-via-then-number-least w ↦ absurd (omega (arith, same, w.if-number-least.true))
      | then-number-least-via-else-number-least+then-most-number w ↦ absurd (omega (arith, same, w.if-most-number.true))
    ]

pub returns-clause-number : goal.returns-clause-number
returns-clause-number c = read_number c.args.text.now c.in-Ok.number c.parse.result c.parse.ensures.value.0 c.in-Ok.is
