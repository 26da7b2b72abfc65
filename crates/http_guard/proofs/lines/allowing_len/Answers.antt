use Rattle.std.proofs.Common.{◌≡◌, ◌++◌, length, refl, arith, length-append}
use Rattle.origin_policy.specs.Answers.{allow_origin, allowed, allowing}
use Rattle.http_guard.proofs.lines.allowing_len.Goals as goal

pub returns : goal.returns
unfolding allowing
returns c =
    let front : length allow_origin ≡ 29 = refl in
    let end : length allowed ≡ 100 = refl in
    omega (arith, front, end, length-append allow_origin (c.args.origin.now ++ allowed), length-append c.args.origin.now allowed)
