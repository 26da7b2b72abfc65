-- What may cross threads: a session as connections have it, where the session itself may, and the revisions that it opens.
use denote.RattleType.{RattleType}
use denote.Param.Send.{IsSend, IsSync, sendable}
use Rattle.changes_feed.specs.contracts.opening.Opening as Opening
use Rattle.document_id.proofs.Crossing as ids
use Rattle.revision_tree.proofs.Crossing as trees
use Rattle.sessions.proofs.Crossing.{session-send}
use Rattle.session_calls.specs.contracts.opened.Opened as Opened
use Rattle.session_calls.specs.contracts.session.SharedSession as SharedSession
use Rattle.std.proofs.Crossing as std
use Rattle.updater_state.specs.contracts.locked.Core as Core

-- A search finds it soon where J and what follows it are given.
pub shared_session-send : (J : RattleType) (q : _) (o : _) (n : _) (R G : RattleType) → IsSend R → IsSend G → IsSync G → IsSend (SharedSession.the_row (Core.the_row R J n o q) J G o n q)
shared_session-send J q o n R G r g h = search (session-send J q o n, sendable) depth 20

opening-send : IsSend Opening.the_row
opening-send = search (ids.crosses, trees.crosses, std.crosses, sendable) depth 60 fits 20000

pub opened-send : IsSend Opened.the_row
opened-send = search (opening-send, sendable) depth 20
