use Rattle.std.proofs.Common.{ap, sym, subst, ◌∙◌}
use Rattle.std.specs.Prelude.{codes, OnOk, option_map}
use Rattle.serde_json.specs.Data.{member, no_members}
use Rattle.serde_json.specs.Written.{has_float}
use Rattle.document_json.specs.MembersText.{Writes}
use Rattle.document_json.specs.Written.{revisions_data, revisions_member}
use Rattle.document_json.proofs.Floats.{no_float-revisions}
use Rattle.document_json.proofs.MemberTexts.{writes-none}
use Rattle.document_json.proofs.written_document.push_revisions.Goals as goal

pub returns : goal.returns
returns c =
    let written = ap (λ value. member (codes "_revisions") value no_members) (c.in_ok-value.ensures ∙ ap revisions_data c.deref.ensures.value)
    ∙ ap (λ revisions. revisions_member (option_map (λ listed. listed.items) revisions)) (sym c.in-Some.is) in
    subst (λ members. OnOk c.push.result (Writes c.args.special.now c.push.new.self members)) written c.push.ensures

pub push-requires : goal.push-requires
push-requires c = ap has_float c.in_ok-value.ensures ∙ no_float-revisions c.deref.result.now

pub returns-in_default : goal.returns-in_default
returns-in_default c =
    let special = c.args.special.now in
    subst (λ revisions. Writes special special (revisions_member (option_map (λ listed. listed.items) revisions))) (sym c.in_default.is) (writes-none special)
