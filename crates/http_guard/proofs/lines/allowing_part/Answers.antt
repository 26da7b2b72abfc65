use Rattle.std.proofs.Common.{◌≡◌, ◌++◌, length, refl, arith, length-append}
use Rattle.origin_policy.specs.Answers.{allow_origin, allowed, allowing}
use Rattle.http_guard.proofs.lines.allowing_part.Goals as goal

pub part_of-requires : goal.part_of-requires
unfolding allowing
part_of-requires c =
    let front : length allow_origin ≡ 29 = refl in
    let end : length allowed ≡ 100 = refl in
    omega (arith, c.requires, front, end, length-append allow_origin (c.args.origin.now ++ allowed), length-append c.args.origin.now allowed)

pub returns-clause-front : goal.returns-clause-front
unfolding allowing
returns-clause-front c = c.part_of.ensures.front
