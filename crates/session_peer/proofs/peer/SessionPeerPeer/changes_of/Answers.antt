use Rattle.std.proofs.Common.{Some, ap, ◌∙◌}
use Rattle.model.specs.Answers.{answer_to}
use Rattle.model.specs.History.{now}
use Rattle.model.specs.Query.{Changes, Changed}
use Rattle.model.specs.declared.style.Style.TheVariants.{AllDocs}
use Rattle.session_api.specs.Known.{history_of}
use Rattle.session_peer.proofs.Queried.{reads}
use Rattle.session_peer.proofs.peer.SessionPeerPeer.changes_of.Goals as goal

pub returns-clause-goes : goal.returns-clause-goes
returns-clause-goes g c =
    reads g.S.Viewer.goes g.S.Viewer.known c.args.self.now.session _ _ c.in_ok-look.ensures.looked c.self.view_is
    (Changes c.args.since (Some c.args.limit) AllDocs (Some c.args.ids.now)) (Changed c.in_ok-changes.field-0)
    (c.in_ok-changes.ensures.page ∙ ap (λ is. answer_to (now (history_of (g.S.Viewer.known c.self.inside.session))) (Changes c.args.since (Some c.args.limit) AllDocs (Some is))) c.in_ok-share.ensures.same)
