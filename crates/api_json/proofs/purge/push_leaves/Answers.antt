use Rattle.std.proofs.Common.{ap, ◌∙◌}
use Rattle.serde_json.specs.Written.{has_float}
use Rattle.api_json.proofs.PlainRows.{no_float-revs}
use Rattle.api_json.proofs.purge.push_leaves.Goals as goal

pub push-requires : goal.push-requires
push-requires c = ap has_float c.in_ok-leaves.ensures ∙ no_float-revs c.deref.result.now
