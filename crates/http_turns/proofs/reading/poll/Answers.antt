use Rattle.std.proofs.Common.{◌∷◌, [], Ok, Err, inl, inr, refl}
use Rattle.session_api.specs.SessionCall.{Refreshed}
use Rattle.http_turns.proofs.reading.poll.Goals as goal

pub returns-in-Ok : goal.returns-in-Ok
returns-in-Ok g c =
    let told = c.in-Ok.ensures in
    let waited = c.wait_where_none.ensures in
    (Refreshed (Ok tt) ∷ waited.0, inr (_, waited.0, refl, record { made = told.goes; learns = told.learns }, waited.1))

pub returns-in-Err : goal.returns-in-Err
returns-in-Err g c =
    let told = c.in-Err.ensures in
    let why = c.in-Err.fault in
    (Refreshed (Err why) ∷ [], inl (why, (refl, record { made = told.goes; learns = told.learns }), refl))
