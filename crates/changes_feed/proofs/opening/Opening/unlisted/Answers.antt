-- The lists of conflicts are the same for each revision.
use Rattle.std.specs.Prelude.{◌≡◌, [], IfOk, Result}
use Rattle.std.proofs.Common.{rules, sym, ap, subst, ◌∙◌}
use Rattle.std.proofs.lemmas.Result.{IfOk-weaker}
use Rattle.model.specs.Documents.{opened_at}
use Rattle.model.specs.Query.{Document}
use Rattle.model.specs.Revision.{Rev}
use Rattle.changes_feed.specs.Opening.{conflicts_of, deleted_conflicts_of, listed_with, unlisted}
use Rattle.changes_feed.proofs.OpenedLists.{listed-opened, none-opened}
use Rattle.changes_feed.proofs.opening.Opening.unlisted.Goals as goal

pub returns-clause-listed : goal.returns-clause-listed
returns-clause-listed c =
    let o = c.args.self.now in
    let own : IfOk c.opened_at.result (λ answer. answer ≡ opened_at o.id o.tree (unlisted o.options) c.args.rev) = search rules in
    IfOk-weaker c.opened_at.result _ _
    (λ answer h. ap (listed_with (conflicts_of o.options o.tree) (deleted_conflicts_of o.options o.tree)) h ∙ listed-opened o.id o.tree o.options c.args.rev) own

pub returns-clause-none : goal.returns-clause-none
returns-clause-none c =
    let o = c.args.self.now in
    let own : IfOk c.opened_at.result (λ answer. answer ≡ opened_at o.id o.tree (unlisted o.options) c.args.rev) = search rules in
    IfOk-weaker c.opened_at.result _ _
    (λ answer h. subst (λ (a : Result Document Rev). IfOk a (λ d. (d.conflicts ≡ []) × (d.deleted_conflicts ≡ []))) (sym h) (none-opened o.id o.tree o.options c.args.rev)) own
