use Rattle.std.proofs.Common.{arith}
use Rattle.snapshots.proofs.Shown.{both-counted}
use Rattle.snapshots.proofs.records.Records.deleted.Goals as goal

pub overflow_sub-result : goal.overflow_sub-result
overflow_sub-result c = omega (arith, c.len.ensures.count, both-counted c.self.inside.by_id.entries c.self.inside.by_number.entries c.self.inside.live c.self.inside.update_seq c.args.self.now c.self.invariant c.self.view_is)

pub returns : goal.returns
returns c = omega (arith, c.len.ensures.count, both-counted c.self.inside.by_id.entries c.self.inside.by_number.entries c.self.inside.live c.self.inside.update_seq c.args.self.now c.self.invariant c.self.view_is)
