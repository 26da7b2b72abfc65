use Rattle.std.proofs.Common.{◌≡◌}
use Rattle.std.proofs.lemmas.Result.{IfOk-weaker}
use Rattle.model.specs.Answers.{answer_to}
use Rattle.model.specs.Database.{Database}
use Rattle.model.specs.History.{now}
use Rattle.model.specs.Query.{Differences, RevsDiff}
use Rattle.session_calls.proofs.Seen.{is_differences, over_seen}
use Rattle.session_calls.proofs.session.SharedSessionCoreReplica.revs_diff.Goals as goal

pub returns : goal.returns
returns g c = record {
  differences =
      over_seen c.revs_diff.result (λ (d : Database) lacking. Differences lacking ≡ answer_to d (RevsDiff c.args.asked.now))
      c.seen.result.now _ c.seen.ensures.seen
      (IfOk-weaker c.revs_diff.result _ _ (λ lacking is. is_differences (now c.seen.result.now) c.args.asked.now lacking is) c.revs_diff.ensures.differences);
}
