use Rattle.std.proofs.Common.{ap, ◌∙◌}
use Rattle.model.specs.Query.{Document}
use Rattle.model.specs.Revision.{rev_text}
use Rattle.document_json.proofs.MemberTexts.{writes-special}
use Rattle.document_json.proofs.written_document.push_special.Goals as goal

pub returns : goal.returns
returns c =
    let is = c.document.view_is in
    writes-special _ _ _ _ _ _ _ _ _ _ _ _ _ _ _ c.args.document.now
    c.in_ok-push_revs.ensures c.in_ok-push_deleted.ensures c.in_ok-push_revs-2.ensures c.in_ok-push_string.ensures
    c.in_ok-push_string-2.ensures c.in_ok-push_revisions.ensures c.in_ok-push_infos.ensures
    (c.deref.ensures.value ∙ ap (λ (d : Document). d.conflicts) is)
    (ap (λ (d : Document). d.deleted) is)
    (c.deref-2.ensures.value ∙ ap (λ (d : Document). d.deleted_conflicts) is)
    (c.as_str.ensures.text ∙ ap (λ (d : Document). d.id) is)
    (c.as_str-2.ensures.value ∙ c.in_ok-rev.ensures ∙ ap (λ (d : Document). rev_text d.rev) is)
    (ap (λ (d : Document). d.revisions) is)
    (ap (λ (d : Document). d.revs_info) is)
