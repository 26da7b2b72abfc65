use Rattle.std.proofs.Common.{refl}
use Rattle.model.specs.Query.{Changes}
use Rattle.http_request.specs.declared.changes.Feed.TheVariants as feed
use Rattle.http_turns.proofs.Turns.{changes_refused, replies_polled}
use Rattle.http_turns.proofs.reading.poll_changes.Goals as goal

pub returns-in-Ok : goal.returns-in-Ok
returns-in-Ok g c =
    λ request asks closes_is.
    let changes = c.args.changes in
    let since = c.in-Ok.since in
    replies_polled g.S.Viewer.goes g.S.Viewer.known _ _ _ request c.args.closes closes_is changes asks c.requires c.in-Ok.ensures.0 since c.in-Ok.ensures.1
    (Changes since changes.limit changes.style changes.ids) refl c.read_since.result c.read_since.ensures

pub returns-in-Err : goal.returns-in-Err
returns-in-Err g c =
    λ request asks closes_is.
    changes_refused g.S.Viewer.goes g.S.Viewer.known _ _ _ request c.args.closes closes_is c.args.changes asks _ feed.LongPoll c.requires c.in-Err.ensures.0 c.in-Err.fault c.in-Err.ensures.1 c.fail.ensures
