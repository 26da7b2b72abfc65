use Rattle.http_workers.proofs.Connections.{Accepted}
use Rattle.http_workers.proofs.accepting.work.Given as goal

-- so many connections were served, or could not be accepted, as there were turns
abbrev pub invariant-loop : goal.invariant-loop
invariant-loop g l = Accepted g.S.Viewer.goes g.S.Viewer.known l.setting l.counter l.fn.session l.session
