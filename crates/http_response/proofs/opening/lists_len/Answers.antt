use Rattle.std.proofs.Common.{length, true, ap, ◌∙◌, arith}
use Rattle.std.specs.Prelude.{codes}
use Rattle.std.proofs.lemmas.Result.{IfOk-weaker}
use Rattle.json_profile.specs.Joined.{bare_text}
use Rattle.document_json.specs.Written.{revs_member}
use Rattle.http_response.proofs.Openings.{conflicts-name, deleted_conflicts-name}
use Rattle.http_response.proofs.opening.lists_len.Goals as goal

pub returns : goal.returns
returns g c =
    let live = c.in_ok-live.ensures (codes "_conflicts") conflicts-name
    ∙ ap (λ revs. length (bare_text true (revs_member (codes "_conflicts") revs))) c.conflicts.ensures.conflicts in
    let deleted = c.in_ok-deleted.ensures (codes "_deleted_conflicts") deleted_conflicts-name
    ∙ ap (λ revs. length (bare_text true (revs_member (codes "_deleted_conflicts") revs))) c.deleted_conflicts.ensures.deleted_conflicts in
    IfOk-weaker c.sum_len.result _ _ (λ len h. omega (arith, h, live, deleted)) c.sum_len.ensures
