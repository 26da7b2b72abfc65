use denote.Param.Send.{IsSend, IsSync, sendable}
use denote.RattleType.{RattleType}
use Rattle.std.proofs.Crossing as std
use Rattle.soak_loopback.specs.contracts.hold.Hold as Hold
use Rattle.soak_loopback.specs.contracts.marks.Marks as Marks
use Rattle.soak_loopback.proofs.served.with_sessions.Goals as goal

marks-send : IsSend Marks.the_row
marks-send = search (std.crosses, sendable) depth 20

marks-sync : IsSync Marks.the_row
marks-sync = search (std.crosses, sendable) depth 20

hold-send : (C : RattleType) → IsSend C → IsSend (Hold.the_row C)
hold-send C c = search (std.crosses, marks-send, marks-sync, sendable) depth 20

hold-sync : (C : RattleType) → IsSync C → IsSync (Hold.the_row C)
hold-sync C c = search (std.crosses, marks-send, marks-sync, sendable) depth 20

pub worked-requires-send-G : goal.worked-requires-send-G
worked-requires-send-G g c κs within = search (hold-send, hold-sync, sendable) depth 20

pub worked-requires-sync-G : goal.worked-requires-sync-G
worked-requires-sync-G g c κs within = search (hold-send, hold-sync, sendable) depth 20
