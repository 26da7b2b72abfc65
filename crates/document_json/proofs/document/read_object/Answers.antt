use Rattle.std.proofs.Common.{◌∙◌, ◌≤◌, false, Ok, ap, sym, subst}
use Rattle.serde_json.specs.Data.{object, depth}
use Rattle.model.specs.Profile.{max_body_nesting}
use Rattle.document_json.specs.Steps.{Decides}
use Rattle.document_json.proofs.Parts.{plain_edit}
use Rattle.document_json.proofs.document.read_object.Goals as goal

pub returns : goal.returns
returns c =
    let body = c.in_ok-body.ensures.body in
    let nests = subst (λ b. depth (object b) ≤ max_body_nesting) body.0 body.1 in
    let edit = plain_edit c.args.id c.args.rev c.args.object (sym c.has_special.ensures.special ∙ c.if-has_special.false) nests in
    subst (Decides c.edit_with.result)
    (ap (λ b. Ok (record { id = c.args.id; named = c.args.rev; deleted = false; body = b })) body.0 ∙ sym edit) c.edit_with.ensures
