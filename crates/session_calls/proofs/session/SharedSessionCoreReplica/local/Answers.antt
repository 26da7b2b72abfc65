use Rattle.std.proofs.Common.{◌≡◌, option_map}
use Rattle.std.proofs.lemmas.Result.{IfOk-weaker}
use Rattle.std.specs.Arc.{arc_value}
use Rattle.model.specs.Answers.{answer_to}
use Rattle.model.specs.Database.{Database}
use Rattle.model.specs.History.{now}
use Rattle.model.specs.Query.{FoundLocal, GetLocal}
use Rattle.session_calls.proofs.Seen.{is_local, over_seen}
use Rattle.session_calls.proofs.session.SharedSessionCoreReplica.local.Goals as goal

pub returns : goal.returns
returns g c = record {
  local =
      over_seen c.local_get.result (λ (d : Database) found. FoundLocal (option_map (λ l. (l.0, arc_value l.1)) found) ≡ answer_to d (GetLocal c.args.id.now))
      c.seen.result.now _ c.seen.ensures.seen
      (IfOk-weaker c.local_get.result _ _ (λ found is. is_local (now c.seen.result.now) c.args.id.now (option_map (λ l. (l.0, arc_value l.1)) found) is) c.local_get.ensures.local);
}
