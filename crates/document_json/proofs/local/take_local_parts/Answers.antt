use Rattle.std.proofs.Common.{◌≡◌, ◌∙◌, ◌≤◌, ◌<◌, Ok, None, ap, refl, sym, subst}
use Rattle.std.specs.Prelude.{codes}
use Rattle.serde_json.specs.Data.{Members, object, depth}
use Rattle.serde_json.specs.Find.{get_member}
use Rattle.json_profile.specs.Objects.{without, has_special}
use Rattle.model.specs.Profile.{without_specials, max_body_nesting}
use Rattle.document_json.specs.Document.{nesting_parts}
use Rattle.document_json.specs.Local.{local_parts_of}
use Rattle.document_json.proofs.Members.{without_specials-without}
use Rattle.document_json.proofs.Checks.{passed-fault}
use Rattle.document_json.proofs.Parts.{left_1, left_2, rev_left, nesting_parts-fault, nesting_parts-ok}
use Rattle.document_json.proofs.local.take_local_parts.Goals as goal

body_left : (ms : Members) → without_specials (left_2 ms) ≡ without_specials ms
body_left ms = without_specials-without (codes "_rev") (left_1 ms) refl ∙ without_specials-without (codes "_id") ms refl

pub returns : goal.returns
returns c =
    let l1 = c.take-id.ensures.left in
    let l2 = c.take-rev.ensures.left ∙ ap (without (codes "_rev")) l1 in
    let ms = c.args.object in
    let rev = sym (c.take-rev.ensures.taken ∙ ap (get_member (codes "_rev")) l1 ∙ rev_left ms) in
    let other = sym (c.has_special-has_other.ensures.special ∙ ap has_special l2) in
    let body = sym (c.in_ok-body.ensures.body.0 ∙ ap without_specials l2 ∙ body_left ms) in
    let nests : depth (object (without_specials ms)) ≤ max_body_nesting =
    subst (λ b. depth (object b) ≤ max_body_nesting) (sym body) c.in_ok-body.ensures.body.1 in
    (nesting_parts-ok (local_parts_of ms) nests
    ∙ λ i. Ok (record { id = sym c.take-id.ensures.taken i; rev = rev i; deleted = None; revisions = None; has_other = other i; body = body i }))

pub returns-in_err-body : goal.returns-in_err-body
returns-in_err-body c =
    let l1 = c.take-id.ensures.left in
    let l2 = c.take-rev.ensures.left ∙ ap (without (codes "_rev")) l1 in
    let ms = c.args.object in
    let body = ap without_specials l2 ∙ body_left ms in
    passed-fault c.from_residual.result c.in_err-body.field-0.0 (nesting_parts (local_parts_of ms)) c.from_residual.ensures.0 c.from_residual.ensures.1
    (nesting_parts-fault (local_parts_of ms) c.into_body.result c.in_err-body.field-0.0 c.in_err-body.was
    (λ is. subst (λ b. max_body_nesting < depth (object b)) body (c.into_body.ensures.depth is)) c.into_body.ensures.of_members)
