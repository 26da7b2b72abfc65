use denote.Param.{param}
use denote.Param.Send.{sendable}
use Rattle.sessions.proofs.Crossing.{session-send}
use Rattle.probe_threads.proofs.run.all_work.Goals as goal

pub for_each_mut-requires-send-T : goal.for_each_mut-requires-send-T
for_each_mut-requires-send-T g c κs within = search (session-send (param 0 g.row.J) g.J.Queued g.J.Opening g.J.Naming, sendable) depth 20
