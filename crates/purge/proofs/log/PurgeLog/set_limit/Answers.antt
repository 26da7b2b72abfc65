use Rattle.purge.proofs.Logs.{IsKept-newest, log-limited}
use Rattle.purge.proofs.log.PurgeLog.set_limit.Goals as goal

pub invariant_of-result : goal.invariant_of-result
invariant_of-result c = IsKept-newest c.self.inside.purge_seq c.args.limit c.self.inside.infos.entries c.in_ok-infos.infos.entries c.requires.some c.self.invariant.numbered c.in_ok-infos.ensures

pub returns : goal.returns
returns c = record { limited = log-limited c.self.inside.purge_seq c.self.inside.limit c.args.limit c.self.inside.infos.entries c.in_ok-infos.infos.entries c.args.self.now c.self.view_is c.in_ok-infos.ensures }
