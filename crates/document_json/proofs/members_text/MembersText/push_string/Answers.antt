use Rattle.std.proofs.Common.{◌++◌, ap, ◌∙◌}
use Rattle.json.specs.Print.{quoted}
use Rattle.serde_json.specs.Data.{string}
use Rattle.document_json.specs.MembersText.{MembersView}
use Rattle.document_json.proofs.MemberTexts.{writes-member}
use Rattle.document_json.proofs.members_text.MembersText.push_string.Goals as goal

pub returns : goal.returns
returns c =
    let named = c.in_ok-push_name.ensures in
    let stood = ap (λ (w : MembersView). w.text) c.self.view_is ∙ named.text in
    writes-member c.args.self.now _ c.args.name.now (string c.args.string.now)
    (c.in_ok-put_string.ensures ∙ ap (λ t. t ++ quoted c.args.string.now) stood)
    (ap (λ (w : MembersView). w.has_members) c.self.view_is ∙ named.later)
