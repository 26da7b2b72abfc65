use Rattle.std.proofs.Common.{◌∙◌, ap}
use Rattle.model.specs.PurgeLog.{PurgeLog}
use Rattle.purge.specs.Log.{infos_of}
use Rattle.purge.proofs.log.PurgeLog.iter.Goals as goal

pub returns-clause-rest : goal.returns-clause-rest
returns-clause-rest c = ap infos_of c.iter.ensures.rest ∙ ap (λ (l : PurgeLog). l.infos) c.self.view_is
