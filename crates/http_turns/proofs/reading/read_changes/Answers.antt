use Rattle.std.proofs.Common.{ℕ, ◌∷◌, [], Err, refl, ap}
use Rattle.model.specs.Query.{Changes}
use Rattle.http_request.specs.declared.changes.Feed.TheVariants as feed
use Rattle.session_api.specs.SessionCall.{Refreshed}
use Rattle.http_turns.proofs.Turns.{changes_refused, replies_changes}
use Rattle.http_turns.proofs.reading.read_changes.Goals as goal

pub returns-in-Ok : goal.returns-in-Ok
returns-in-Ok g c =
    λ request asks closes_is.
    let changes = c.args.changes in
    let told = c.in-Ok.ensures in
    replies_changes g.S.Viewer.goes g.S.Viewer.known _ _ _ request c.args.closes closes_is changes asks c.requires (record { made = told.goes; learns = told.learns })
    (Changes c.since_seen-since.result changes.limit changes.style changes.ids) (ap (λ (n : ℕ). Changes n changes.limit changes.style changes.ids) c.since_seen-since.ensures) c.read_since.result c.read_since.ensures

pub returns-in-Err : goal.returns-in-Err
returns-in-Err g c =
    λ request asks closes_is.
    let told = c.in-Err.ensures in
    let why = c.in-Err.fault in
    changes_refused g.S.Viewer.goes g.S.Viewer.known _ _ _ request c.args.closes closes_is c.args.changes asks _ feed.Normal c.requires (Refreshed (Err why) ∷ []) why
    (Err why, (refl, record { made = told.goes; learns = told.learns }), refl) c.fail.ensures
