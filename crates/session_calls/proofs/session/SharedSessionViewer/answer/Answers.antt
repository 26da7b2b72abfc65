use Rattle.std.proofs.Common.{◌≡◌}
use Rattle.model.specs.Answers.{answer_to}
use Rattle.model.specs.Database.{Database}
use Rattle.model.specs.Query.{Answer}
use Rattle.session_calls.proofs.Seen.{over_seen}
use Rattle.session_calls.proofs.session.SharedSessionViewer.answer.Goals as goal

pub returns : goal.returns
returns g c = record {
  answer =
      over_seen c.answer.result (λ (d : Database) (a : Answer). a ≡ answer_to d c.args.query.now) c.seen.result.now _ c.seen.ensures.seen c.answer.ensures.answer;
}
