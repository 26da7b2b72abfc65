use Rattle.std.proofs.Common.{◌+◌, ◌-◌, ap, ◌∙◌, arith}
use Rattle.purge.proofs.Logs.{few-numbered, IsShorter-without}
use Rattle.purge.proofs.newest.without_older.Goals as goal

pub overflow_sub-oldest : goal.overflow_sub-oldest
overflow_sub-oldest c = omega (arith, c.len-in-loop-kept.ensures.count, few-numbered c.args.purge_seq c.loop-kept.kept.entries c.loop-kept.invariant.numbered)

pub loop-kept-smaller : goal.loop-kept-smaller
loop-kept-smaller c =
    let shorter = IsShorter-without c.args.purge_seq c.args.limit (c.args.purge_seq - c.len-in-loop-kept.result + 1) c.loop-kept.kept.entries c.in_ok-kept.kept.entries c.loop-kept.invariant.numbered
    (omega (arith, c.loop-kept-test.true, c.len.ensures.count)) (ap (λ n. c.args.purge_seq - n + 1) c.len-in-loop-kept.ensures.count) c.in_ok-kept.ensures.entries in
    shorter.fewer

pub loop-kept-preserved : goal.loop-kept-preserved
loop-kept-preserved c =
    let shorter = IsShorter-without c.args.purge_seq c.args.limit (c.args.purge_seq - c.len-in-loop-kept.result + 1) c.loop-kept.kept.entries c.in_ok-kept.kept.entries c.loop-kept.invariant.numbered
    (omega (arith, c.loop-kept-test.true, c.len.ensures.count)) (ap (λ n. c.args.purge_seq - n + 1) c.len-in-loop-kept.ensures.count) c.in_ok-kept.ensures.entries in
    record { numbered = shorter.numbered; newest = shorter.newest ∙ c.loop-kept.invariant.newest }
