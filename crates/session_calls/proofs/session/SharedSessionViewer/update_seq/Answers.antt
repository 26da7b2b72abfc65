use Rattle.std.proofs.Common.{◌∙◌, ap}
use Rattle.model.specs.Database.{Database}
use Rattle.model.specs.History.{Chronicle, now}
use Rattle.session_calls.proofs.session.SharedSessionViewer.update_seq.Goals as goal

pub returns : goal.returns
returns g c = record {
  number =
      c.update_seq.ensures ∙ ap (λ r. r.update_seq) c.documents.ensures ∙ ap (λ (d : Database). d.update_seq) c.database.ensures ∙ ap (λ (h : Chronicle). (now h).update_seq) c.seen.ensures.seen;
}
