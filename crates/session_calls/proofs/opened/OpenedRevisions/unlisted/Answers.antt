use Rattle.std.proofs.Common.{sym, ◌∙◌}
use Rattle.std.proofs.lemmas.Result.{IfOk-weaker}
use Rattle.changes_feed.specs.Opening.{conflicts_of, deleted_conflicts_of}
use Rattle.session_calls.proofs.Shown.{same_listed}
use Rattle.session_calls.proofs.opened.OpenedRevisions.unlisted.Goals as goal

pub returns-clause-listed : goal.returns-clause-listed
returns-clause-listed c =
    let o = c.args.self.now.opening in
    IfOk-weaker c.unlisted.result _ _
    (λ answer h. sym (same_listed (conflicts_of o.options o.tree) (deleted_conflicts_of o.options o.tree) answer) ∙ h) c.unlisted.ensures.listed
