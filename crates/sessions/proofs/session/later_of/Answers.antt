use Rattle.version_log.proofs.Prefixes.{prefix_self}
use Rattle.sessions.proofs.session.later_of.Goals as goal

pub returns-then-precedes-clause-extends : goal.returns-then-precedes-clause-extends
returns-then-precedes-clause-extends g c = (c.if-precedes.ensures.published, prefix_self c.args.theirs)

pub returns-clause-extends : goal.returns-clause-extends
returns-clause-extends g c = (prefix_self c.args.mine, c.if-precedes.ensures.published)
