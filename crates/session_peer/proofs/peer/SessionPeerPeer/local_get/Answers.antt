use Rattle.std.proofs.Common.{None, Some, sym, ◌∙◌}
use Rattle.std.specs.Arc.{arc_value}
use Rattle.session_peer.proofs.Queried.{reads_local}
use Rattle.session_peer.proofs.peer.SessionPeerPeer.local_get.Goals as goal

pub returns-in_default-clause-goes : goal.returns-in_default-clause-goes
returns-in_default-clause-goes g c =
    reads_local g.S.Viewer.goes g.S.Viewer.known c.args.self.now.session _ _ c.in_ok-look.ensures.looked c.self.view_is
    (λ l. (l.0, arc_value l.1)) c.args.id.now c.in_ok-counter.field-0 None c.in_default.is c.in_ok-counter.ensures.local

pub returns-in_default-2-clause-goes : goal.returns-in_default-2-clause-goes
returns-in_default-2-clause-goes g c = (
  (c.in-Some.counter, arc_value c.in-Some.body),
  reads_local g.S.Viewer.goes g.S.Viewer.known c.args.self.now.session _ _ c.in_ok-look.ensures.looked c.self.view_is
      (λ l. (l.0, arc_value l.1)) c.args.id.now c.in_ok-counter.field-0 (Some (c.in-Some.counter, c.in-Some.body)) c.in-Some.is c.in_ok-counter.ensures.local,
  sym c.in_ok-checkpoint.ensures ∙ c.in_default-2.is,
)

pub returns-clause-goes : goal.returns-clause-goes
returns-clause-goes g c = (
  (c.in-Some.counter, arc_value c.in-Some.body),
  reads_local g.S.Viewer.goes g.S.Viewer.known c.args.self.now.session _ _ c.in_ok-look.ensures.looked c.self.view_is
      (λ l. (l.0, arc_value l.1)) c.args.id.now c.in_ok-counter.field-0 (Some (c.in-Some.counter, c.in-Some.body)) c.in-Some.is c.in_ok-counter.ensures.local,
  sym c.in_ok-checkpoint.ensures ∙ c.in-Some-2.is,
)
