use Rattle.std.proofs.Common.{◌++◌, [], ◌∷◌, false, append_assoc, ap, ◌∙◌}
use Rattle.api_json.specs.List.{items_so_far}
use Rattle.api_json.proofs.ListTexts.{items_so_far-closed}
use Rattle.api_json.proofs.list.ListText.finish.Goals as goal

pub returns : goal.returns
returns c = λ before items h.
    c.in_ok-push_str.ensures.bytes ∙ ap (λ t. t ++ (93 ∷ [])) h.text
    ∙ append_assoc before (91 ∷ items_so_far false items) (93 ∷ [])
    ∙ ap (λ t. before ++ (91 ∷ t)) (items_so_far-closed false items)
