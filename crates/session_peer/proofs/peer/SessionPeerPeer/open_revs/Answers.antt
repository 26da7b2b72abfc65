use Rattle.std.proofs.Common.{Some}
use Rattle.model.specs.Documents.{opened}
use Rattle.model.specs.History.{now}
use Rattle.model.specs.Query.{OpenRevs, Opened}
use Rattle.session_api.specs.Known.{history_of}
use Rattle.session_peer.specs.Shown.{with_paths}
use Rattle.session_peer.proofs.Queried.{answers_opened, reads}
use Rattle.session_peer.proofs.peer.SessionPeerPeer.open_revs.Goals as goal

pub returns-clause-goes : goal.returns-clause-goes
returns-clause-goes g c =
    let d = now (history_of (g.S.Viewer.known c.self.inside.session)) in
    let revs = opened d c.args.id.now (Some c.args.revs.now) with_paths in (
      revs,
      reads g.S.Viewer.goes g.S.Viewer.known c.args.self.now.session _ _ c.in_ok-look.ensures.looked c.self.view_is
          (OpenRevs c.args.id.now (Some c.args.revs.now) with_paths) (Opened revs) (answers_opened d c.args.id.now c.args.revs.now with_paths),
      c.in_ok-revisions.ensures,
    )
