-- The rows of all that changed.
use Rattle.std.specs.Prelude.{◌≡◌, IfOk, map, take}
use Rattle.std.proofs.Common.{ap, subst, ◌∙◌}
use Rattle.model.specs.Database.{Database}
use Rattle.model.specs.Changes.{changed_since, every_id, row}
use Rattle.changes_feed.proofs.page.first_rows.Goals as goal

pub returns : goal.returns
returns c = subst (λ es. IfOk c.rows_of.result (λ rows. rows.items ≡ take c.args.most (map (row c.args.style) es)))
    (c.changed_since.ensures.rest ∙ ap (λ (e : Database). changed_since every_id e c.args.since) c.database.ensures)
    c.rows_of.ensures
