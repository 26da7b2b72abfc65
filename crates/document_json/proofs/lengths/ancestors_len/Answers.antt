use Rattle.std.proofs.Common.{true, length, ap, ◌∙◌, arith}
use Rattle.json_profile.specs.Joined.{bare_text}
use Rattle.model.specs.Query.{Document}
use Rattle.document_json.specs.Written.{infos_member, revisions_member}
use Rattle.document_json.proofs.TextLengths.{length-join}
use Rattle.document_json.proofs.lengths.ancestors_len.Goals as goal

pub returns : goal.returns
returns c =
    let d : Document = c.args.document.now in
    let is = c.document.view_is in
    let revisions = c.in_ok-revisions.ensures ∙ ap (λ (d : Document). length (bare_text true (revisions_member d.revisions))) is in
    let infos = c.in_ok-infos.ensures ∙ ap (λ (d : Document). length (bare_text true (infos_member d.revs_info))) is in
    omega (arith, length-join (revisions_member d.revisions) (infos_member d.revs_info), revisions, infos, c.in_ok-len.ensures)
