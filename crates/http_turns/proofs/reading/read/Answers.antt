use Rattle.http_turns.proofs.Turns.{answers_refused, replies_asked}
use Rattle.http_turns.proofs.reading.read.Goals as goal

pub returns-in-Ok : goal.returns-in-Ok
returns-in-Ok g c =
    λ request asks closes_is.
    let told = c.in-Ok.ensures in
    replies_asked g.S.Viewer.goes g.S.Viewer.known _ _ _ request c.args.closes closes_is (record { made = told.goes; learns = told.learns }) c.args.query.now asks c.reply_seen.result c.reply_seen.ensures

pub returns-in-Err : goal.returns-in-Err
returns-in-Err g c =
    λ request asks closes_is.
    let told = c.in-Err.ensures in
    answers_refused g.S.Viewer.goes g.S.Viewer.known _ _ _ request c.args.closes closes_is _ c.in-Err.fault (record { made = told.goes; learns = told.learns }) c.args.query.now asks c.fail.ensures
