use Rattle.std.proofs.Common.{subst}
use Rattle.sessions.specs.Known.{SeesOwn}
use Rattle.sessions.proofs.LastTold.{exact_by}
use Rattle.sessions.proofs.ended.Ended.is_lost.Goals as goal

pub returns-clause-exact : goal.returns-clause-exact
returns-clause-exact g c = exact_by g.J.Naming.base c.args.self.now c.args.last.now (subst SeesOwn c.self.view_is c.self.invariant.1) c.publication-recalled.ensures.grows
