use Rattle.std.proofs.Common.{sym, ◌∙◌, inl}
use Rattle.session_peer.specs.Commands.{put_checkpoint}
use Rattle.session_peer.proofs.Replied.{has_entry, writes}
use Rattle.session_peer.proofs.peer.SessionPeerPeer.local_put.Goals as goal

pub returns-in-Some-clause-goes : goal.returns-in-Some-clause-goes
returns-in-Some-clause-goes g c = (
  c.reply_at.result.now,
  writes g.S.Viewer.goes g.S.Viewer.known c.args.self.now.session c.write.new.self.session c.in_ok-command.command (put_checkpoint c.args.id.now c.args.named c.args.last_seq) c.in_ok-place.place c.reply_at.result.now
      c.in_ok-command.ensures.command c.in_ok-place.ensures.written c.reply_at.ensures,
  sym c.counter_in.ensures ∙ c.in-Some.is,
)

pub returns-in-None-clause-goes : goal.returns-in-None-clause-goes
returns-in-None-clause-goes g c = inl (
  c.reply_at.result.now,
  writes g.S.Viewer.goes g.S.Viewer.known c.args.self.now.session c.write.new.self.session c.in_ok-command.command (put_checkpoint c.args.id.now c.args.named c.args.last_seq) c.in_ok-place.place c.reply_at.result.now
      c.in_ok-command.ensures.command c.in_ok-place.ensures.written c.reply_at.ensures,
  sym c.counter_in.ensures ∙ c.in-None.is,
)

pub reply_at-requires : goal.reply_at-requires
reply_at-requires g c = has_entry g.S.Viewer.goes g.S.Viewer.known _ _ _ _ c.in_ok-place.ensures.written
