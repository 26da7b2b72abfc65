use Rattle.std.proofs.Common.{None, Some}
use Rattle.model.specs.Query.{Changes, Changed}
use Rattle.model.specs.declared.style.Style.TheVariants.{AllDocs}
use Rattle.session_peer.proofs.Queried.{reads}
use Rattle.session_peer.proofs.peer.SessionPeerPeer.changes.Goals as goal

pub returns-clause-goes : goal.returns-clause-goes
returns-clause-goes g c =
    reads g.S.Viewer.goes g.S.Viewer.known c.args.self.now.session _ _ c.in_ok-look.ensures.looked c.self.view_is
    (Changes c.args.since (Some c.args.limit) AllDocs None) (Changed c.in_ok-changes.field-0) c.in_ok-changes.ensures.page
