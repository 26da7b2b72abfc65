use Rattle.std.proofs.Common.{refl, ◌∙◌}
use Rattle.api_json.specs.Bulk.{outcome_data}
use Rattle.api_json.proofs.bulk.push_outcome.Goals as goal

pub returns : goal.returns
returns c = λ before items h.
    c.in_ok-push_text.ensures before items _ (outcome_data c.args.id.now c.args.outcome.now) h (c.as_str.ensures.value ∙ c.in_ok-item.ensures) refl
