use Rattle.std.proofs.Common.{sym, ap, subst, ◌∙◌}
use Rattle.std.proofs.lemmas.Result.{IfOk-weaker}
use Rattle.serde_json.specs.Data.{object, no_members}
use Rattle.serde_json.specs.Written.{compact_text}
use Rattle.model.specs.Body.{IsBody}
use Rattle.model.specs.Query.{Document}
use Rattle.json_profile.specs.Joined.{between}
use Rattle.document_json.specs.MembersText.{IsMembersAfter}
use Rattle.document_json.specs.Written.{front_text, special_members}
use Rattle.document_json.proofs.Specials.{document-special, has_member-special}
use Rattle.document_json.proofs.written_document.document_text.Goals as goal

pub returns : goal.returns
returns c =
    let d : Document = c.args.document.now in
    let body = c.deref.ensures ∙ ap (λ (d : Document). d.body) c.document.view_is in
    let same = c.deref-2.ensures ∙ sym c.deref.ensures in
    let written = c.in_ok-push_special.ensures (front_text c.deref.result.now) no_members c.in_ok-special.ensures.special in
    let around = subst (λ b. IsMembersAfter (front_text b) c.push_special.new.special (special_members d)) (sym same) written in
    IfOk-weaker c.text_around.result _ _
    (λ text told. told (special_members d) (has_member-special d) around
    ∙ ap (λ b. compact_text (object (between b (special_members d)))) (same ∙ body)
    ∙ ap compact_text (document-special d (subst IsBody body c.in_ok-special.ensures.body)))
    c.text_around.ensures
