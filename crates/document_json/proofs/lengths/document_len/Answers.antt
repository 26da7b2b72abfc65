use Rattle.std.proofs.Common.{◌+◌, length, ap, subst, ◌∙◌, arith, true}
use Rattle.json_profile.specs.Joined.{bare_text}
use Rattle.model.specs.Body.{IsBody}
use Rattle.model.specs.Query.{Document}
use Rattle.document_json.proofs.TextLengths.{document-length}
use Rattle.document_json.proofs.lengths.document_len.Goals as goal

pub returns : goal.returns
returns c =
    let d : Document = c.args.document.now in
    let body = c.deref.ensures ∙ ap (λ (d : Document). d.body) c.document.view_is in
    let whole = document-length d (subst IsBody body c.body_len.ensures.body) in
    let own = c.body_len.ensures.len ∙ ap (λ b. 1 + length (bare_text true b)) body in
    omega (arith, whole, own, c.in_ok-special.ensures, c.in_ok-len.ensures)
