use Rattle.std.proofs.Common.{sym, subst}
use Rattle.sessions.specs.Calls.{Looks}
use Rattle.sessions.proofs.Looking.{looks_counted}
use Rattle.sessions.proofs.session.Session.look_once_more.Goals as goal

pub returns-clause-looks : goal.returns-clause-looks
returns-clause-looks g c =
    subst (Looks g.J.Naming.base c.args.self.now) (sym c.count_look.ensures) (looks_counted g.J.Naming.base c.args.self.now c.see_latest.new.self c.args.number c.in_ok-see_latest.ensures.looks)
