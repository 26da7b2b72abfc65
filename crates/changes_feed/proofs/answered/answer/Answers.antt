-- Each answer is that of its query.
use Rattle.std.specs.Prelude.{◌≡◌}
use Rattle.std.proofs.Common.{sym, ap, ◌∙◌}
use Rattle.model.specs.Query as model
use Rattle.model.specs.Database.{Database}
use Rattle.model.specs.History.{now}
use Rattle.model.specs.Documents.{opened}
use Rattle.model.specs.Answers.{answer_to}
use Rattle.queries.specs.Query.{query_of}
use Rattle.queries.specs.declared.query.QueryKind.{QueryKind}
use Rattle.changes_feed.proofs.answered.answer.Goals as goal

-- a query is what its kind says
by_kind : (d : Database) (k : QueryKind) (kind : QueryKind) (query : model.Query) → kind ≡ k → query_of kind ≡ query → answer_to d (query_of k) ≡ answer_to d query
by_kind d k kind query is said = ap (λ (j : QueryKind). answer_to d (query_of j)) (sym is) ∙ ap (answer_to d) said

pub returns-in_ok-found-in-Get : goal.returns-in_ok-found-in-Get
unfolding answer_to
returns-in_ok-found-in-Get c =
    let d = now c.args.version.now in
    record { answer = c.new.ensures.answer ∙ ap model.Found c.in_ok-found-in-Get.ensures.found ∙ by_kind d _ c.kind.result.now c.args.query.now c.in-Get.is c.kind.ensures.kind }

pub returns-in_ok-opened-in-OpenRevs : goal.returns-in_ok-opened-in-OpenRevs
unfolding answer_to
returns-in_ok-opened-in-OpenRevs c =
    let d = now c.args.version.now in
    record { answer = c.new-in-OpenRevs.ensures.answer ∙ ap model.Opened (c.in_ok-opened-in-OpenRevs.ensures.opened ∙ ap (λ asked. opened d c.in-OpenRevs.id asked c.in-OpenRevs.options) c.listed.ensures) ∙ by_kind d _ c.kind.result.now c.args.query.now c.in-OpenRevs.is c.kind.ensures.kind }

pub returns-in_ok-differences-in-RevsDiff : goal.returns-in_ok-differences-in-RevsDiff
unfolding answer_to
returns-in_ok-differences-in-RevsDiff c =
    let d = now c.args.version.now in
    record { answer = c.new-in-RevsDiff.ensures.answer ∙ ap model.Differences c.in_ok-differences-in-RevsDiff.ensures.differences ∙ by_kind d _ c.kind.result.now c.args.query.now c.in-RevsDiff.is c.kind.ensures.kind }

pub returns-in_ok-page-in-Changes : goal.returns-in_ok-page-in-Changes
unfolding answer_to
returns-in_ok-page-in-Changes c =
    let d = now c.args.version.now in
    record { answer = c.new-in-Changes.ensures.answer ∙ ap model.Changed c.in_ok-page-in-Changes.ensures ∙ by_kind d _ c.kind.result.now c.args.query.now c.in-Changes.is c.kind.ensures.kind }

pub returns-in_ok-documents-in-AllDocuments : goal.returns-in_ok-documents-in-AllDocuments
unfolding answer_to
returns-in_ok-documents-in-AllDocuments c =
    let d = now c.args.version.now in
    record { answer = c.new-in-AllDocuments.ensures.answer ∙ ap model.Documents c.in_ok-documents-in-AllDocuments.ensures.documents ∙ by_kind d _ c.kind.result.now c.args.query.now c.in-AllDocuments.is c.kind.ensures.kind }

pub returns-in-Info : goal.returns-in-Info
unfolding answer_to
returns-in-Info c =
    let d = now c.args.version.now in
    record { answer = c.new-in-Info.ensures.answer ∙ ap model.Counted c.info.ensures.counts ∙ by_kind d _ c.kind.result.now c.args.query.now c.in-Info.is c.kind.ensures.kind }

pub returns-in_ok-local-in-GetLocal : goal.returns-in_ok-local-in-GetLocal
unfolding answer_to
returns-in_ok-local-in-GetLocal c =
    let d = now c.args.version.now in
    record { answer = c.new-in-GetLocal.ensures.answer ∙ ap model.FoundLocal c.in_ok-local-in-GetLocal.ensures.local ∙ by_kind d _ c.kind.result.now c.args.query.now c.in-GetLocal.is c.kind.ensures.kind }

pub returns-in-RevsLimit : goal.returns-in-RevsLimit
unfolding answer_to
returns-in-RevsLimit c =
    let d = now c.args.version.now in
    record { answer = c.new-in-RevsLimit.ensures.answer ∙ ap model.Limit c.revs_limit.ensures.limit ∙ by_kind d _ c.kind.result.now c.args.query.now c.in-RevsLimit.is c.kind.ensures.kind }

pub returns-in-PurgedInfosLimit : goal.returns-in-PurgedInfosLimit
unfolding answer_to
returns-in-PurgedInfosLimit c =
    let d = now c.args.version.now in
    record { answer = c.new-in-PurgedInfosLimit.ensures.answer ∙ ap model.Limit c.purged_infos_limit.ensures.limit ∙ by_kind d _ c.kind.result.now c.args.query.now c.in-PurgedInfosLimit.is c.kind.ensures.kind }
