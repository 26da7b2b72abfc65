-- A row for each change.
use Rattle.std.specs.Prelude.{length}
use Rattle.std.proofs.Common.{sym, ap, ◌∙◌}
use Rattle.std.proofs.Math.ListN.{length-map}
use Rattle.model.specs.Database.{Database}
use Rattle.model.specs.History.{now}
use Rattle.model.specs.Changes.{changed_since, row, rows_since, wanted_by}
use Rattle.session_api.specs.Known.{history_of}
use Rattle.session_api.proofs.Histories.{database_seen}
use Rattle.http_turns.proofs.feed.pending.Goals as goal

pub returns : goal.returns
returns g c =
    let k = g.S.Viewer.known c.args.session.now in
    let f = c.args.following.now in
    c.count_changes.ensures.count
    ∙ sym (length-map (changed_since (wanted_by f.ids) (now (history_of k)) f.cursor) (row f.style))
    ∙ ap (λ (d : Database). length (rows_since (wanted_by f.ids) d f.cursor f.style)) (database_seen k)
