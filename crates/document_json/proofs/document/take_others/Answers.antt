use Rattle.std.proofs.Common.{◌∙◌, ◌≤◌, ◌<◌, Ok, ap, sym, subst}
use Rattle.std.specs.Prelude.{codes}
use Rattle.serde_json.specs.Data.{object, depth}
use Rattle.serde_json.specs.Find.{get_member}
use Rattle.json_profile.specs.Objects.{without, has_special}
use Rattle.model.specs.Profile.{without_specials, max_body_nesting}
use Rattle.document_json.specs.Document.{nesting_parts, parts_after, without_ignored}
use Rattle.document_json.proofs.Checks.{passed-fault}
use Rattle.document_json.proofs.Parts.{deleted_left, revisions_left, body_left, nesting_parts-fault, nesting_parts-ok}
use Rattle.document_json.proofs.document.take_others.Goals as goal

pub returns : goal.returns
returns c =
    let l2 = c.take-rev.ensures.left in
    let l3 = c.take-deleted.ensures.left ∙ ap (without (codes "_deleted")) l2 in
    let l4 = c.take-revisions.ensures.left ∙ ap (without (codes "_revisions")) l3 in
    let l5 = c.drop_ignored.ensures ∙ ap without_ignored l4 in
    let ms = c.args.object in
    let rev = sym c.take-rev.ensures.taken in
    let deleted = sym (c.take-deleted.ensures.taken ∙ ap (get_member (codes "_deleted")) l2 ∙ deleted_left ms) in
    let revisions = sym (c.take-revisions.ensures.taken ∙ ap (get_member (codes "_revisions")) l3 ∙ revisions_left ms) in
    let other = sym (c.has_special-has_other.ensures.special ∙ ap has_special l5) in
    let body = sym (c.in_ok-body.ensures.body.0 ∙ ap without_specials l5 ∙ body_left ms) in
    let nests : depth (object (without_specials ms)) ≤ max_body_nesting =
    subst (λ b. depth (object b) ≤ max_body_nesting) (sym body) c.in_ok-body.ensures.body.1 in
    (nesting_parts-ok (parts_after c.args.id ms) nests
    ∙ λ i. Ok (record { id = c.args.id; rev = rev i; deleted = deleted i; revisions = revisions i; has_other = other i; body = body i }))

pub returns-in_err-body : goal.returns-in_err-body
returns-in_err-body c =
    let l2 = c.take-rev.ensures.left in
    let l3 = c.take-deleted.ensures.left ∙ ap (without (codes "_deleted")) l2 in
    let l4 = c.take-revisions.ensures.left ∙ ap (without (codes "_revisions")) l3 in
    let l5 = c.drop_ignored.ensures ∙ ap without_ignored l4 in
    let ms = c.args.object in
    let body = ap without_specials l5 ∙ body_left ms in
    passed-fault c.from_residual.result c.in_err-body.field-0.0 (nesting_parts (parts_after c.args.id ms)) c.from_residual.ensures.0 c.from_residual.ensures.1
    (nesting_parts-fault (parts_after c.args.id ms) c.into_body.result c.in_err-body.field-0.0 c.in_err-body.was
    (λ is. subst (λ b. max_body_nesting < depth (object b)) body (c.into_body.ensures.depth is)) c.into_body.ensures.of_members)
