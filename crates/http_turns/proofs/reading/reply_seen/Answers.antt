use Rattle.std.proofs.Common.{ℕ, subst}
use Rattle.model.specs.History.{now}
use Rattle.model.specs.Answers.{answer_to}
use Rattle.session_api.specs.Known.{history_of}
use Rattle.http_turns.specs.Replies.{RepliesWith}
use Rattle.http_turns.proofs.reading.reply_seen.Goals as goal

pub returns-in-Ok-Some : goal.returns-in-Ok-Some
returns-in-Ok-Some g c =
    let k = g.S.Viewer.known c.args.session.now in
    let query = c.args.query.now in
    let answer = answer_to (now (history_of k)) query in
    let long = rw c.in-Ok-Some.field-0-is at c.in-Ok-Some.ensures in
    subst (λ (p : ℕ). RepliesWith p c.args.closes query answer c.reply_opening.result) c.place-place.ensures.place (c.reply_opening.ensures query answer long)
