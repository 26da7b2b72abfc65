use denote.Param.{param}
use denote.Param.Send.{IsSend, IsSync, sendable}
use denote.RattleType.{RattleType}
use denote.Ref.{NamedLft}
use Rattle.std.proofs.Crossing as std
use Rattle.test_threads.specs.contracts.tests.held.Holds as Holds
use Rattle.test_threads.specs.contracts.tests.held.tally.Tally as Tally
use Rattle.sessions.proofs.Crossing.{session-send}
use Rattle.history_lock.proofs.Lending.{no_more}
use Rattle.test_threads.proofs.tests.held.run.Goals as goal

tally-sync : IsSync Tally.the_row
tally-sync = search (std.crosses, sendable) depth 20

holds-send : (a : NamedLft) (C : RattleType) → IsSync C → IsSend (Holds.the_row a C)
holds-send a C c = search (tally-sync, sendable) depth 20

holds-sync : (a : NamedLft) (C : RattleType) → IsSync C → IsSync (Holds.the_row a C)
holds-sync a C c = search (tally-sync, sendable) depth 20

pub for_each_mut-requires-send-T : goal.for_each_mut-requires-send-T
for_each_mut-requires-send-T g c κs within = search (session-send (param 0 g.row.J) g.J.Queued g.J.Opening g.J.Naming, holds-send, holds-sync, sendable) depth 20

pub close-requires : goal.close-requires
close-requires g c =
    let lent = c.as_mut_slice in
    record { all = no_more c.in-Ok.sessions.items lent.result.now _ c.in-Ok.sessions.len _ _ c.in-Ok.ensures.sessions c.requires.named.sessions_is lent.ensures.value lent.ensures.len }
