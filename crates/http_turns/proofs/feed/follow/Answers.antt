use Rattle.std.proofs.Common.{◌∷◌, [], Err, refl, subst}
use Rattle.std.specs.Prelude.{IsTrue}
use Rattle.http_request.specs.declared.changes.Feed.TheVariants as feed
use Rattle.session_api.specs.SessionCall.{Refreshed}
use Rattle.http_turns.proofs.Turns.{changes_refused}
use Rattle.http_turns.proofs.Fed.{fault_closes, writes_fed, writes_sent}
use Rattle.http_turns.proofs.feed.follow.Goals as goal

pub returns-in-Ok-clause-turn : goal.returns-in-Ok-clause-turn
returns-in-Ok-clause-turn g c =
    λ request asks closes_is.
    let told = c.in-Ok.ensures in
    let goes = c.follow_seen.ensures.goes_on in
    writes_fed g.S.Viewer.goes g.S.Viewer.known _ _ _ _ (record { made = told.goes; learns = told.learns }) request c.args.changes asks c.requires _ goes.0 goes.1 _ _ _ refl goes.2 c.follow_seen.ensures.closes

pub returns-in-Err-clause-turn : goal.returns-in-Err-clause-turn
returns-in-Err-clause-turn g c =
    λ request asks closes_is.
    let told = c.in-Err.ensures in
    let why = c.in-Err.fault in
    writes_sent g.S.Viewer.goes g.S.Viewer.known _ _ _ request c.fail-sent.result _ _ _
    (changes_refused g.S.Viewer.goes g.S.Viewer.known _ _ _ request c.args.closes closes_is c.args.changes asks c.fail-sent.result feed.Continuous c.requires (Refreshed (Err why) ∷ []) why
    (Err why, (refl, record { made = told.goes; learns = told.learns }), refl) c.fail-sent.ensures)
    (λ is. fault_closes _ c.args.closes why _ c.fail-sent.ensures (subst IsTrue closes_is is))
    c.send.ensures.written c.send.ensures.closes
