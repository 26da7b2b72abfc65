use denote.Param.{param}
use denote.Param.Send.{IsSend, IsSync, sendable}
use denote.RattleType.{RattleType}
use denote.Ref.{NamedLft}
use Rattle.std.proofs.Crossing as std
use Rattle.soak_compaction.specs.contracts.hold.Hold as Hold
use Rattle.soak_compaction.specs.contracts.hold.Marks as Marks
use Rattle.sessions.proofs.Crossing.{session-send}
use Rattle.soak_compaction.proofs.run.all_work.Goals as goal

marks-sync : IsSync Marks.the_row
marks-sync = search (std.crosses, sendable) depth 20

hold-send : (a : NamedLft) (C : RattleType) → IsSync C → IsSend (Hold.the_row a C)
hold-send a C c = search (marks-sync, sendable) depth 20

hold-sync : (a : NamedLft) (C : RattleType) → IsSync C → IsSync (Hold.the_row a C)
hold-sync a C c = search (marks-sync, sendable) depth 20

pub for_each_mut-requires-send-T : goal.for_each_mut-requires-send-T
for_each_mut-requires-send-T g c κs within = search (session-send (param 0 g.row.J) g.J.Queued g.J.Opening g.J.Naming, hold-send, hold-sync, sendable) depth 20
