use Rattle.std.proofs.Common.{arith}
use Rattle.shared_list.proofs.Levels.{levels_le}
use Rattle.shared_list.proofs.spine.Spine.push.Goals as goal

pub overflow_add-levels : goal.overflow_add-levels
overflow_add-levels g c = omega (arith, levels_le _ _ c.in-Some.ensures.first, c.requires)
