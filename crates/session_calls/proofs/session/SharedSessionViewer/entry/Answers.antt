use Rattle.std.proofs.Common.{◌∙◌}
use Rattle.session_calls.specs.Sessions.{known_of}
use Rattle.session_calls.proofs.Seen.{same_entry}
use Rattle.session_calls.proofs.session.SharedSessionViewer.entry.Goals as goal

pub returns : goal.returns
returns g c = record {
  entry =
      c.entry.ensures ∙ same_entry (known_of g.J.Naming.base g.J.Opening.config g.J.Queued.sessions g.J.Queued.capacity c.args.self.now) c.seen.result.now c.args.place c.seen.ensures.seen;
}
