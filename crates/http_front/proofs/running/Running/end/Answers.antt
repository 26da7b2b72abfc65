use Rattle.std.proofs.Common.{List, subst}
use Rattle.sessions.specs.Known.{Known}
use Rattle.history_lock.specs.Ending.{Ends}
use Rattle.http_front.proofs.running.Running.end.Goals as goal

pub returns : goal.returns
returns g c = record { end = subst (λ (ks : List Known). Ends g.J.Naming.base ks c.close.result) c.all_sessions.ensures.same c.close.ensures.end }
