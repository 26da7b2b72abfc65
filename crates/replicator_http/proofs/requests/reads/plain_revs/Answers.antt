use Rattle.std.proofs.Common.{ap, ◌∙◌}
use Rattle.std.proofs.lemmas.Result.{IfOk-weaker}
use Rattle.serde_json.specs.Written.{has_float}
use Rattle.api_json.proofs.PlainRows.{no_float-revs}
use Rattle.replicator_http.proofs.requests.reads.plain_revs.Goals as goal

pub returns-clause-plain : goal.returns-clause-plain
returns-clause-plain c =
    IfOk-weaker c.revs_value.result _ _ (λ value is. ap has_float is ∙ no_float-revs c.args.revs.now) c.revs_value.ensures
