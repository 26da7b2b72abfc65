use Rattle.model.specs.Command.{Compact}
use Rattle.std.proofs.lemmas.Result.{IfErr-weaker}
use Rattle.sessions.specs.Compactions.{LeavesTry, chronicle_of}
use Rattle.sessions.proofs.Looking.{leaves_try_then, try_behind, try_receipt, try_follows}
use Rattle.sessions.proofs.compacting.Session+Core+R+J+J+G.attempt.Goals as goal

pub returns-clause-receipt : goal.returns-clause-receipt
returns-clause-receipt g c = try_receipt g.J.Naming.base c.swap_seen.result c.args.self.now c.refresh.new.self c.swap_seen.new.self Compact c.in_ok-refresh.ensures.looks c.swap_seen.ensures.receipt

pub returns-clause-behind : goal.returns-clause-behind
returns-clause-behind g c = try_behind g.J.Naming.base c.swap_seen.result c.args.self.now c.refresh.new.self c.swap_seen.new.self c.in_ok-refresh.ensures.looks c.swap_seen.ensures.behind

pub returns-clause-follows : goal.returns-clause-follows
returns-clause-follows g c = try_follows c.swap_seen.result c.swap_seen.new.copy.seen (chronicle_of g.J.Naming.base c.swap_seen.new.self) c.swap_seen.ensures.follows

pub returns-clause-fault : goal.returns-clause-fault
returns-clause-fault g c =
    IfErr-weaker c.swap_seen.result (λ e. LeavesTry g.J.Naming.base g.J.Opening.config e c.refresh.new.self c.swap_seen.new.self) (λ e. LeavesTry g.J.Naming.base g.J.Opening.config e c.args.self.now c.swap_seen.new.self)
    (λ e. leaves_try_then g.J.Naming.base g.J.Opening.config e c.args.self.now c.refresh.new.self c.swap_seen.new.self c.in_ok-refresh.ensures.looks) c.swap_seen.ensures.fault
