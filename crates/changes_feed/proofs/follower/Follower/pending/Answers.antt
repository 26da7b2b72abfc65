-- A row for each change.
use Rattle.std.specs.Prelude.{length}
use Rattle.std.proofs.Common.{sym, ap, ◌∙◌}
use Rattle.std.proofs.Math.ListN.{length-map}
use Rattle.model.specs.History.{now}
use Rattle.model.specs.Changes.{changed_since, row, wanted_by}
use Rattle.changes_feed.specs.Followed.{Following}
use Rattle.changes_feed.proofs.follower.Follower.pending.Goals as goal

pub returns : goal.returns
returns c =
    let f = c.args.self.now in
    let d = now c.args.version.now in
    record {
      pending = c.count_wanted.ensures
          ∙ ap (λ (g : Following). length (changed_since (wanted_by g.ids) d g.cursor)) c.self.view_is
          ∙ sym (length-map (changed_since (wanted_by f.ids) d f.cursor) (row f.style));
    }
