use Rattle.version_log.proofs.Growing.{few-publications}
use Rattle.version_log.proofs.front.Front.count.Goals as goal

pub returns-clause-few : goal.returns-clause-few
returns-clause-few g c = rw (← c.self.view_is) (few-publications g.J.Naming.base c.self.inside.seen.log c.self.invariant.2)
