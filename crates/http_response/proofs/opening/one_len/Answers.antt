use Rattle.std.proofs.Common.{ℕ, ◌+◌, ap, ◌∙◌, subst}
use Rattle.std.proofs.lemmas.Result.{IfOk-weaker}
use Rattle.model.specs.Body.{IsBody}
use Rattle.model.specs.Query.{Document}
use Rattle.http_response.proofs.Openings.{length-listed}
use Rattle.http_response.proofs.opening.one_len.Goals as goal

pub returns-in-Ok : goal.returns-in-Ok
returns-in-Ok g c lists_is =
    let live = g.O.Revisions.listed c.args.opening.now in
    let deleted = g.O.Revisions.listed_deleted c.args.opening.now in
    let own = c.in_ok-own.own in
    let body : IsBody c.in-Ok.document.body = subst IsBody (c.deref.ensures ∙ ap (λ (d : Document). d.body) c.document.view_is) c.text-recalled.ensures.body in
    let told = c.in_ok-unlisted.ensures in
    let more = length-listed c.in-Ok.document c.in_ok-unlisted.unlisted _ live deleted own c.in-Ok.is body told.none told.listed c.in_ok-own.ensures in
    IfOk-weaker c.sum_len.result _ _ (λ len h. h ∙ ap (λ (n : ℕ). own + n) lists_is ∙ more) c.sum_len.ensures
