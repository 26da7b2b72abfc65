-- Of all documents, or of some.
use Rattle.std.specs.Prelude.{◌≡◌, IfOk, take}
use Rattle.std.proofs.Common.{subst, sym}
use Rattle.model.specs.History.{now}
use Rattle.model.specs.Changes.{rows_since, wanted_by}
use Rattle.changes_feed.proofs.page.wanted_rows.Goals as goal

pub returns-in-Some : goal.returns-in-Some
returns-in-Some c = subst (λ ids. IfOk c.first_rows_among.result (λ rows. rows.items ≡ take c.args.most (rows_since (wanted_by ids) (now c.args.version.now) c.args.since c.args.style)))
    (sym c.in-Some.is) c.first_rows_among.ensures

pub returns-in-None : goal.returns-in-None
returns-in-None c = subst (λ ids. IfOk c.first_rows.result (λ rows. rows.items ≡ take c.args.most (rows_since (wanted_by ids) (now c.args.version.now) c.args.since c.args.style)))
    (sym c.in-None.is) c.first_rows.ensures
