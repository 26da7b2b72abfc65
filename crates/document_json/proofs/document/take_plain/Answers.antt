use Rattle.std.proofs.Common.{◌∙◌, ◌≤◌, Ok, ap, sym, subst}
use Rattle.serde_json.specs.Data.{object, depth}
use Rattle.model.specs.Profile.{without_specials, max_body_nesting}
use Rattle.document_json.specs.Document.{nesting_parts, parts_after}
use Rattle.document_json.proofs.Checks.{passed-fault}
use Rattle.document_json.proofs.Parts.{nesting_parts-fault, nesting_parts-ok, parts_after-none, plain_parts}
use Rattle.document_json.proofs.document.take_plain.Goals as goal

pub returns : goal.returns
returns c =
    let ms = c.args.object in
    let body = c.in_ok-body.ensures.body in
    let nests : depth (object (without_specials ms)) ≤ max_body_nesting = subst (λ b. depth (object b) ≤ max_body_nesting) body.0 body.1 in
    nesting_parts-ok (parts_after c.args.id ms) nests
    ∙ ap Ok (parts_after-none c.args.id ms c.requires)
    ∙ ap (λ b. Ok (plain_parts c.args.id b)) (sym body.0)

pub returns-in_err-body : goal.returns-in_err-body
returns-in_err-body c =
    let ms = c.args.object in
    passed-fault c.from_residual.result c.in_err-body.field-0.0 (nesting_parts (parts_after c.args.id ms)) c.from_residual.ensures.0 c.from_residual.ensures.1
    (nesting_parts-fault (parts_after c.args.id ms) c.into_body.result c.in_err-body.field-0.0 c.in_err-body.was
    c.into_body.ensures.depth c.into_body.ensures.of_members)
