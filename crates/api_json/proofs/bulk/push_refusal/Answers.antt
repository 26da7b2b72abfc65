use Rattle.std.proofs.Common.{◌++◌, ap, ◌∙◌}
use Rattle.api_json.specs.Bulk.{refusals_of, refused_data}
use Rattle.api_json.proofs.bulk.push_refusal.Goals as goal

pub returns : goal.returns
returns c = λ before items h.
    let id = c.args.id.now in
    c.in_ok-push_text.ensures before items _ (refused_data id _) h (c.as_str.ensures.value ∙ c.in_ok-item.ensures)
    (ap (λ o. items ++ refusals_of id o) c.in-Err.is)
