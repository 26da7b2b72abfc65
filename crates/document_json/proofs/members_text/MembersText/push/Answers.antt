use Rattle.std.proofs.Common.{◌++◌, [], ◌∷◌, ap, ◌∙◌}
use Rattle.json.specs.Print.{quoted}
use Rattle.serde_json.specs.View.{view}
use Rattle.serde_json.specs.Written.{comma_if}
use Rattle.document_json.specs.MembersText.{MembersView}
use Rattle.document_json.proofs.MemberTexts.{writes-member}
use Rattle.document_json.proofs.members_text.MembersText.push.Goals as goal

pub returns : goal.returns
returns c =
    let w = c.args.self.now in
    let named = c.in_ok-push_name.ensures in
    let stood = ap (λ (w : MembersView). w.text) c.self.view_is ∙ named.text in
    let value = c.as_str.ensures.value ∙ c.in_ok-value.ensures in
    writes-member w _ c.args.name.now (view c.args.value.now)
    (c.in_ok-push_str.ensures.bytes ∙ ap (λ t. t ++ c.as_str.result.now) stood ∙ ap (λ t. (((w.text ++ comma_if w.has_members) ++ quoted c.args.name.now) ++ 58 ∷ []) ++ t) value)
    (ap (λ (w : MembersView). w.has_members) c.self.view_is ∙ named.later)
