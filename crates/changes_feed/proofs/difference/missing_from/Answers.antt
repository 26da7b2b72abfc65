-- Of a document that is not known all are missing.
use Rattle.std.specs.Prelude.{◌≡◌, IfOk, option_copied}
use Rattle.std.proofs.Common.{sym, ap, subst, ◌∙◌}
use Rattle.model.specs.Documents.{missing_from}
use Rattle.changes_feed.specs.Lacking.{known_tree}
use Rattle.changes_feed.proofs.LackLists.{missing-empty}
use Rattle.changes_feed.proofs.difference.missing_from.Goals as goal

pub returns-in-None : goal.returns-in-None
returns-in-None c = subst (λ xs. IfOk c.once-in-None.result (λ v. v.items ≡ xs))
    (sym (missing-empty c.args.asked.now) ∙ ap (λ t. missing_from (known_tree (option_copied t)) c.args.asked.now) (sym c.in-None.is))
    c.once-in-None.ensures
