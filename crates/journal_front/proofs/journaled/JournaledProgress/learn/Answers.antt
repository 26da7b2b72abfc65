use Rattle.version_log.proofs.Prefixes.{prefix_self}
use Rattle.journal_front.proofs.journaled.JournaledProgress.learn.Goals as goal

pub returns-then-not-precedes : goal.returns-then-not-precedes
returns-then-not-precedes g c = record { more = prefix_self c.args.self.now }

pub returns : goal.returns
returns g c = record { more = rw c.again.ensures.same (c.precedes.ensures c.if-not-precedes.false) }
