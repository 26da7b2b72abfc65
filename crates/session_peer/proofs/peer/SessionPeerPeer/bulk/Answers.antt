use Rattle.std.proofs.Common.{rules, ◌≡◌, true, false, sym, ◌∙◌, inl}
use Rattle.model.specs.Command.{Merges}
use Rattle.session_peer.proofs.Replied.{has_entry, writes}
use Rattle.session_peer.proofs.peer.SessionPeerPeer.bulk.Goals as goal

pub returns-then-not-are_taken-clause-goes : goal.returns-then-not-are_taken-clause-goes
returns-then-not-are_taken-clause-goes g c =
    let refused : c.are_taken.result ≡ false = search rules in
    inl (
      c.reply_at.result.now,
      writes g.S.Viewer.goes g.S.Viewer.known c.args.self.now.session c.write.new.self.session c.in_ok-command.command (Merges c.args.documents.now) c.in_ok-place.place c.reply_at.result.now
          c.in_ok-command.ensures.command c.in_ok-place.ensures.written c.reply_at.ensures,
      sym c.are_taken.ensures ∙ refused,
    )

pub returns-clause-goes : goal.returns-clause-goes
returns-clause-goes g c =
    let taken : c.are_taken.result ≡ true = search rules in (
      c.reply_at.result.now,
      writes g.S.Viewer.goes g.S.Viewer.known c.args.self.now.session c.write.new.self.session c.in_ok-command.command (Merges c.args.documents.now) c.in_ok-place.place c.reply_at.result.now
          c.in_ok-command.ensures.command c.in_ok-place.ensures.written c.reply_at.ensures,
      sym c.are_taken.ensures ∙ taken,
    )

pub reply_at-requires : goal.reply_at-requires
reply_at-requires g c = has_entry g.S.Viewer.goes g.S.Viewer.known _ _ _ _ c.in_ok-place.ensures.written
