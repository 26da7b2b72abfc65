use Rattle.std.proofs.Common.{sym, subst}
use Rattle.sessions.specs.Calls.{Looks}
use Rattle.sessions.proofs.Looking.{looks_self}
use Rattle.sessions.proofs.session.Session.look_again.Goals as goal

pub returns-in-Some-clause-looks : goal.returns-in-Some-clause-looks
returns-in-Some-clause-looks g c = looks_self g.J.Naming.base c.args.self.now c.place-recalled.ensures.legal c.place-recalled.ensures.own

pub returns-clause-looks : goal.returns-clause-looks
returns-clause-looks g c = subst (Looks g.J.Naming.base c.args.self.now) (sym c.snapshot_of.ensures.same) (looks_self g.J.Naming.base c.args.self.now c.place-recalled.ensures.legal c.place-recalled.ensures.own)
