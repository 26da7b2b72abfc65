-- The same of the changes of some documents.
use Rattle.std.specs.Prelude.{◌≡◌, ◌-◌, ◌==◌, ℕ, List, Some, length, map, take, if◌then◌else◌}
use Rattle.std.proofs.Common.{sym, ap, ◌∙◌}
use Rattle.model.specs.Command.{Id}
use Rattle.model.specs.Query.{Row}
use Rattle.model.specs.Database.{Database, Record}
use Rattle.model.specs.History.{now}
use Rattle.model.specs.Changes.{changed_since, last_seq_of, row, wanted_by}
use Rattle.changes_feed.proofs.RowLists.{page-is}
use Rattle.changes_feed.proofs.page.changes_among.Goals as goal

pub returns : goal.returns
returns c =
    let d = now c.args.version.now in
    let since = c.args.since in
    let style = c.args.style in
    let wanted = wanted_by (Some c.args.ids.now) in
    let changed : c.in_ok-changed.changed.entries ≡ changed_since wanted d since =
    c.in_ok-changed.ensures.changed ∙ ap (λ (e : Database). changed_since wanted e since) c.database.ensures in
    record {
      page = page-is wanted d since c.args.limit style c.len-count.result c.len.result c.page_end.result c.in_ok-rows.rows.items
          (c.len-count.ensures.count ∙ ap (λ (es : List (ℕ × (Id × Record))). length es) changed)
          (c.in_ok-rows.ensures ∙ (λ i. take (c.most_rows.ensures i) (map (row style) ((c.iter.ensures.rest ∙ changed) i))))
          (c.len.ensures ∙ sym c.deref.ensures.len ∙ ap (λ (rs : List Row). length rs) c.deref.ensures.value)
          (c.page_end.ensures ∙ ap (λ (rs : List Row). if (c.len-count.result - c.len.result) == 0 then d.update_seq else last_seq_of since rs) c.deref.ensures.value);
    }
