use Rattle.http_workers.proofs.Connections.{Visited}
use Rattle.http_workers.proofs.visiting.visit_each.Given as goal

-- visits so far
abbrev pub invariant-loop : goal.invariant-loop
invariant-loop g l = Visited g.S.Viewer.goes g.S.Viewer.known l.setting l.fn.session l.session
