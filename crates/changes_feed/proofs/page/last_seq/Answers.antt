-- The last row's number.
use Rattle.std.proofs.Common.{sym, ap, ◌∙◌}
use Rattle.model.specs.Query.{Row}
use Rattle.changes_feed.proofs.RowLists.{last_seq-get}
use Rattle.changes_feed.proofs.page.last_seq.Goals as goal

pub returns-in-Some : goal.returns-in-Some
returns-in-Some c = ap (λ (r : Row). r.seq) c.last-in-Some.view_is ∙ sym (last_seq-get c.args.since c.args.rows.now c.in-Some.last.now (sym c.in-Some.ensures.value))
