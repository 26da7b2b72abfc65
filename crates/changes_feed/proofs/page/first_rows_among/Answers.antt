-- The rows of what changed of the documents.
use Rattle.std.specs.Prelude.{◌≡◌, IfOk, Some, map, take}
use Rattle.std.proofs.Common.{ap, subst, ◌∙◌}
use Rattle.model.specs.Database.{Database}
use Rattle.model.specs.Changes.{changed_since, row, wanted_by}
use Rattle.changes_feed.proofs.page.first_rows_among.Goals as goal

pub returns : goal.returns
returns c = subst (λ es. IfOk c.rows_of.result (λ rows. rows.items ≡ take c.args.most (map (row c.args.style) es)))
    (c.iter.ensures.rest ∙ c.in_ok-changed.ensures.changed ∙ ap (λ (e : Database). changed_since (wanted_by (Some c.args.ids.now)) e c.args.since) c.database.ensures)
    c.rows_of.ensures
