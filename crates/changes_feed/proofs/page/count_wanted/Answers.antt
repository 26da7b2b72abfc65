-- Of all documents, or of some.
use Rattle.std.specs.Prelude.{length}
use Rattle.std.proofs.Common.{sym, ◌∙◌}
use Rattle.model.specs.Changes.{changed_since, wanted_by}
use Rattle.changes_feed.proofs.page.count_wanted.Goals as goal

pub returns-in-Some : goal.returns-in-Some
returns-in-Some c =
    c.count_changed_among.ensures
    ∙ (λ i. length (changed_since (wanted_by (sym c.in-Some.is i)) (c.database-database.ensures i) c.args.since))

pub returns-in-None : goal.returns-in-None
returns-in-None c =
    c.count_changed_since.ensures
    ∙ (λ i. length (changed_since (wanted_by (sym c.in-None.is i)) (c.database-database.ensures i) c.args.since))
