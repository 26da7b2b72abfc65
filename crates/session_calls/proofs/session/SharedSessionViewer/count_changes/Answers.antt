use Rattle.std.proofs.Common.{◌∙◌, ap, length}
use Rattle.model.specs.Changes.{changed_since, wanted_by}
use Rattle.model.specs.History.{Chronicle, now}
use Rattle.session_calls.proofs.session.SharedSessionViewer.count_changes.Goals as goal

pub returns : goal.returns
returns g c = record {
  count =
      c.count_wanted.ensures ∙ ap (λ (h : Chronicle). length (changed_since (wanted_by c.args.ids.now) (now h) c.args.since)) c.seen.ensures.seen;
}
