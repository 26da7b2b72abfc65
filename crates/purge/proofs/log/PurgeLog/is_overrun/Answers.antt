use Rattle.std.proofs.Common.{◌-◌, nat_lt, ap, ◌∙◌, arith}
use Rattle.purge.proofs.Logs.{few-numbered, overrun-counted}
use Rattle.purge.proofs.log.PurgeLog.is_overrun.Goals as goal

pub overflow_sub-result : goal.overflow_sub-result
overflow_sub-result c = omega (arith, c.len.ensures.count, few-numbered c.self.inside.purge_seq c.self.inside.infos.entries c.self.invariant.numbered)

pub returns : goal.returns
returns c = ap (λ n. nat_lt c.args.mark (c.self.inside.purge_seq - n)) c.len.ensures.count ∙ overrun-counted c.self.inside.purge_seq c.self.inside.limit c.self.inside.infos.entries c.args.self.now c.self.invariant c.self.view_is c.args.mark
