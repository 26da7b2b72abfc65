use Rattle.model.specs.Query.{RevsDiff, Differences}
use Rattle.session_peer.proofs.Queried.{reads}
use Rattle.session_peer.proofs.peer.SessionPeerPeer.diff.Goals as goal

pub returns-clause-goes : goal.returns-clause-goes
returns-clause-goes g c =
    reads g.S.Viewer.goes g.S.Viewer.known c.args.self.now.session _ _ c.in_ok-look.ensures.looked c.self.view_is
    (RevsDiff c.args.asked.now) (Differences c.in_ok-revs_diff.field-0) c.in_ok-revs_diff.ensures.differences
