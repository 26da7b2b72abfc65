use denote.Param.{param}
use denote.Param.Send.{sendable}
use Rattle.sessions.proofs.Crossing.{session-send}
use Rattle.history_lock.proofs.Lending.{no_more}
use Rattle.test_threads.proofs.tests.soak.soaked.Goals as goal

pub for_each_mut-requires-send-T : goal.for_each_mut-requires-send-T
for_each_mut-requires-send-T g c κs within = search (session-send (param 0 g.row.J) g.J.Queued g.J.Opening g.J.Naming, sendable) depth 20

pub close-closed-requires : goal.close-closed-requires
close-closed-requires g c =
    let lent = c.as_mut_slice in
    record { all = no_more c.in-Ok.sessions.items lent.result.now _ c.in-Ok.sessions.len _ _ c.in-Ok.ensures.sessions c.requires.named.sessions_is lent.ensures.value lent.ensures.len }
