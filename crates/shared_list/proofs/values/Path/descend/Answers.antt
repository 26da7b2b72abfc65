use Rattle.std.proofs.Common.{length, ap, arith}
use Rattle.shared_list.proofs.Dues.{some_value}
use Rattle.shared_list.proofs.values.Path.descend.Goals as goal

pub unreachable-requires : goal.unreachable-requires
unreachable-requires g c = omega (arith, ap length c.in_default.ensures.empty, some_value c.loop-levels.at.now c.loop-levels.levels (omega arith) c.loop-levels.invariant.3)
