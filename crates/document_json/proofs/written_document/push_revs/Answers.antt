use Rattle.std.proofs.Common.{ap, sym, subst, ◌∙◌}
use Rattle.std.specs.Prelude.{OnOk}
use Rattle.serde_json.specs.Data.{member, no_members}
use Rattle.serde_json.specs.Written.{has_float}
use Rattle.document_json.specs.MembersText.{Writes}
use Rattle.document_json.proofs.MemberTexts.{member-revs, none-revs, writes-none}
use Rattle.document_json.proofs.Floats.{no_float-revs}
use Rattle.document_json.proofs.written_document.push_revs.Goals as goal

pub returns : goal.returns
returns c =
    let name = c.args.name.now in
    let written = ap (λ value. member name value no_members) c.in_ok-value.ensures
    ∙ member-revs name c.args.revs.now (sym c.is_empty.ensures ∙ c.if-is_empty.false) in
    subst (λ members. OnOk c.push.result (Writes c.args.special.now c.push.new.self members)) written c.push.ensures

pub push-requires : goal.push-requires
push-requires c = ap has_float c.in_ok-value.ensures ∙ no_float-revs c.args.revs.now

pub returns-then-is_empty : goal.returns-then-is_empty
returns-then-is_empty c =
    let special = c.args.special.now in
    subst (Writes special special) (none-revs c.args.name.now c.args.revs.now (sym c.is_empty.ensures ∙ c.if-is_empty.true)) (writes-none special)
