use Rattle.std.proofs.Common.{sym, subst}
use Rattle.http_request.specs.Forms.{IsFormOf}
use Rattle.http_turns.proofs.Turns.{answers_command, command_refused}
use Rattle.http_turns.proofs.writing.write.Goals as goal

pub tell_reply-requires : goal.tell_reply-requires
tell_reply-requires g c =
    let writes = c.in-Ok.ensures.learns.0 in
    (writes.entry, subst (IsFormOf c.args.form) (sym writes.asked) c.requires, writes.told)

pub returns-in-Ok : goal.returns-in-Ok
returns-in-Ok g c =
    λ request asks closes_is.
    let told = c.in-Ok.ensures in
    let writes = told.learns.0 in
    answers_command g.S.Viewer.goes g.S.Viewer.known _ _ _ _ request c.args.closes closes_is c.args.form c.args.command asks c.in-Ok.place (record { made = told.goes; learns = told.learns })
    (c.tell_reply.ensures writes.entry writes.told)

pub returns-in-Err : goal.returns-in-Err
returns-in-Err g c =
    λ request asks closes_is.
    let told = c.in-Err.ensures in
    command_refused g.S.Viewer.goes g.S.Viewer.known _ _ _ _ request c.args.closes closes_is c.args.form c.args.command asks c.in-Err.fault (record { made = told.goes; learns = told.learns }) c.fail.ensures
