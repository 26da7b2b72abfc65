use Rattle.std.proofs.Common.{◌≡◌, Some}
use Rattle.std.proofs.lemmas.Result.{IfOk-weaker}
use Rattle.model.specs.Answers.{answer_to}
use Rattle.model.specs.Database.{Database}
use Rattle.model.specs.History.{now}
use Rattle.model.specs.Query.{OpenRevs, Opened}
use Rattle.session_calls.proofs.Seen.{is_opened, over_seen}
use Rattle.session_calls.proofs.session.SharedSessionCoreReplica.documents.Goals as goal

pub returns : goal.returns
returns g c = record {
  opened =
      over_seen c.open_revs.result (λ (d : Database) given. Opened given.items ≡ answer_to d (OpenRevs c.args.id.now (Some c.args.revs.now) c.args.options.now))
      c.seen.result.now _ c.seen.ensures.seen
      (IfOk-weaker c.open_revs.result _ _ (λ given is. is_opened (now c.seen.result.now) c.args.id.now (Some c.args.revs.now) c.args.options.now given.items is) c.open_revs.ensures.opened);
}
