use Rattle.std.proofs.Common.{◌∙◌, ap, sym, subst}
use Rattle.model.specs.History.{now}
use Rattle.session_api.specs.Known.{history_of}
use Rattle.session_peer.specs.Shown.{ShowPaths, all_brought, with_paths}
use Rattle.session_peer.proofs.Paths.{opened-shows}
use Rattle.session_peer.proofs.Queried.{opened_is}
use Rattle.session_peer.proofs.shown.revisions.Goals as goal

pub bring_all-requires : goal.bring_all-requires
bring_all-requires g c =
    let d = now (history_of (g.S.Viewer.known c.args.session.now)) in
    subst ShowPaths (sym (opened_is d c.args.id.now c.args.revs.now with_paths _ c.in_ok-opened.ensures.opened))
    (opened-shows d c.args.id.now c.args.revs.now c.place-recalled.ensures.database)

pub returns : goal.returns
returns g c =
    let d = now (history_of (g.S.Viewer.known c.args.session.now)) in
    c.in_ok-revisions.ensures ∙ ap all_brought (opened_is d c.args.id.now c.args.revs.now with_paths _ c.in_ok-opened.ensures.opened)
