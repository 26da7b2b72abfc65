use Rattle.std.proofs.Common.{true, length, ap, ◌∙◌, arith}
use Rattle.std.specs.Prelude.{codes}
use Rattle.json_profile.specs.Joined.{bare_text}
use Rattle.model.specs.Query.{Document}
use Rattle.document_json.specs.Written.{flag_member, revs_member}
use Rattle.document_json.proofs.TextLengths.{length-conflicts}
use Rattle.document_json.proofs.lengths.conflicts_len.Goals as goal

pub returns : goal.returns
returns c =
    let d : Document = c.args.document.now in
    let is = c.document.view_is in
    let live = c.in_ok-live.ensures ∙ ap (λ revs. length (bare_text true (revs_member (codes "_conflicts") revs))) (c.deref.ensures.value ∙ ap (λ (d : Document). d.conflicts) is) in
    let deleted = c.in_ok-deleted.ensures ∙ ap (λ revs. length (bare_text true (revs_member (codes "_deleted_conflicts") revs))) (c.deref-2.ensures.value ∙ ap (λ (d : Document). d.deleted_conflicts) is) in
    let flag = c.deleted_len.ensures ∙ ap (λ (d : Document). length (bare_text true (flag_member d.deleted))) is in
    omega (arith, length-conflicts d, live, deleted, flag, c.in_ok-both.ensures, c.in_ok-len.ensures)
