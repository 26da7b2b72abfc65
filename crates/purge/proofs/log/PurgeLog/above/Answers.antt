use Rattle.std.proofs.Common.{◌+◌, ap, ◌∙◌}
use Rattle.purge.specs.Log.{infos_of}
use Rattle.purge.proofs.Logs.{above-mark}
use Rattle.purge.proofs.log.PurgeLog.above.Goals as goal

pub returns-clause-rest : goal.returns-clause-rest
returns-clause-rest c = ap infos_of c.range_from.ensures.rest ∙ above-mark c.self.inside.purge_seq c.self.inside.limit c.self.inside.infos.entries c.args.self.now c.self.invariant c.self.view_is c.args.mark (c.min.result + 1) (ap (λ n. n + 1) c.min.ensures)
