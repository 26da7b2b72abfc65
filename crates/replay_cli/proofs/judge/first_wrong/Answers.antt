use Rattle.std.proofs.Common.{◌≡◌, ◌++◌, length, rules, ap, ◌∙◌, arith}
use Rattle.std.specs.Vec.Iter.{into_iter_items, into_iter_len}
use Rattle.replay_cli.proofs.Verdicts.{goes_over}
use Rattle.replay_cli.proofs.judge.first_wrong.Goals as goal

pub loop-entry-preserved : goal.loop-entry-preserved
loop-entry-preserved c =
    let steps = c.in-Some.ensures.steps in
    let judged = c.loop-entry.invariant.3 in
    let counted = ap length steps.0 in
    let len : into_iter_len c.next.new.self ≡ length (into_iter_items c.next.new.self) = (let lens = c.loop-entry.invariant.2 in let one = steps.1 in omega (arith, counted, lens, one)) in
    let is = judged.1 ∙ ap (λ xs. judged.0 ++ xs) steps.0 in
    (tt, tt, len, goes_over c.args.version.now.base _ judged.0 _ _ _ _ is judged.2 judged.3 (c.in_ok-judge_one.ensures.next (search rules)))
