-- The rows are the first ones, and what is counted beyond them is left.
use Rattle.std.specs.Prelude.{◌-◌, ◌==◌, List, length, take, if◌then◌else◌}
use Rattle.std.proofs.Common.{sym, ap, ◌∙◌}
use Rattle.model.specs.Query.{Row}
use Rattle.model.specs.Database.{Database}
use Rattle.model.specs.History.{now}
use Rattle.model.specs.Changes.{changed_since, every_id, last_seq_of, rows_since}
use Rattle.changes_feed.proofs.RowLists.{page-is}
use Rattle.changes_feed.proofs.page.changes.Goals as goal

pub returns : goal.returns
returns c =
    let d = now c.args.version.now in
    let since = c.args.since in
    record {
      page = page-is every_id d since c.args.limit c.args.style c.count_changed_since-count.result c.len.result c.page_end.result c.in_ok-rows.rows.items
          (c.count_changed_since-count.ensures ∙ ap (λ (e : Database). length (changed_since every_id e since)) c.database.ensures)
          (c.in_ok-rows.ensures ∙ ap (λ n. take n (rows_since every_id d since c.args.style)) c.most_rows.ensures)
          (c.len.ensures ∙ sym c.deref.ensures.len ∙ ap (λ (rs : List Row). length rs) c.deref.ensures.value)
          (c.page_end.ensures ∙ ap (λ (rs : List Row). if (c.count_changed_since-count.result - c.len.result) == 0 then d.update_seq else last_seq_of since rs) c.deref.ensures.value);
    }
