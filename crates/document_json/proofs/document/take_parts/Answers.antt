use Rattle.std.proofs.Common.{◌≡◌, ◌∙◌, subst}
use Rattle.document_json.specs.Document.{nesting_parts, parts_of, parts_after}
use Rattle.document_json.specs.Steps.{Decides}
use Rattle.document_json.proofs.Parts.{parts_after_id}
use Rattle.document_json.proofs.document.take_parts.Goals as goal

pub returns-then-has_special : goal.returns-then-has_special
returns-then-has_special c =
    let ms = c.args.object in
    let parts : parts_after c.take-id.result c.take-id.new.self ≡ parts_of ms = (λ i. parts_after (c.take-id.ensures.taken i) (c.take-id.ensures.left i)) ∙ parts_after_id ms in
    subst (λ p. Decides c.take_others.result (nesting_parts p)) parts c.take_others.ensures

pub returns : goal.returns
returns c =
    let ms = c.args.object in
    let parts : parts_after c.take-id.result c.take-id.new.self ≡ parts_of ms = (λ i. parts_after (c.take-id.ensures.taken i) (c.take-id.ensures.left i)) ∙ parts_after_id ms in
    subst (λ p. Decides c.take_plain.result (nesting_parts p)) parts c.take_plain.ensures
