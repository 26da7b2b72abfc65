use Rattle.std.proofs.Common.{ap, ◌∙◌}
use Rattle.serde_json.specs.Written.{has_float}
use Rattle.api_json.proofs.PlainRows.{no_float-difference}
use Rattle.api_json.proofs.differences.push_difference.Goals as goal

pub push-requires : goal.push-requires
push-requires c = ap has_float c.in_ok-value.ensures ∙ no_float-difference c.args.document.now.1
