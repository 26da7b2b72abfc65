use Rattle.std.proofs.Common.{◌≡◌, take}
use Rattle.model.specs.Changes.{rows_since, wanted_by}
use Rattle.model.specs.Database.{Database}
use Rattle.session_calls.proofs.Seen.{over_seen}
use Rattle.session_calls.proofs.session.SharedSessionViewer.next_rows.Goals as goal

pub returns-clause-rows : goal.returns-clause-rows
returns-clause-rows g c =
    let following = c.args.following.now in
    over_seen c.next_rows.result (λ (d : Database) rows. rows.items ≡ take c.args.limit (rows_since (wanted_by following.ids) d following.cursor following.style))
    c.seen.result.now _ c.seen.ensures.seen c.next_rows.ensures.rows
