use Rattle.std.proofs.Common.{◌≡◌, ℕ, sym, subst}
use Rattle.std.specs.Prelude.{IsSome}
use Rattle.model.specs.History.{now}
use Rattle.model.specs.Query.{Answer}
use Rattle.model.specs.Answers.{answer_to}
use Rattle.http_response.specs.Told.{answer_told}
use Rattle.session_api.specs.Known.{history_of}
use Rattle.http_turns.specs.Replies.{RepliesWith}
use Rattle.http_turns.proofs.Texts.{answer-told}
use Rattle.http_turns.proofs.reading.reply_made.Goals as goal

pub reply_by_length-requires : goal.reply_by_length-requires
reply_by_length-requires g c =
    subst (λ (answer : Answer). IsSome (answer_told c.args.query.now answer)) (sym c.in-Ok.ensures.answer) (answer-told _ c.args.query.now)

pub returns : goal.returns
returns g c =
    let k = g.S.Viewer.known c.args.session.now in
    let query = c.args.query.now in
    let answer : c.in-Ok.found ≡ answer_to (now (history_of k)) query = c.in-Ok.ensures.answer in
    subst (λ (p : ℕ). RepliesWith p c.args.closes query (answer_to (now (history_of k)) query) c.reply_by_length.result) c.place-place.ensures.place
    (subst (λ (a : Answer). RepliesWith c.place-place.result c.args.closes query a c.reply_by_length.result) answer c.reply_by_length.ensures)
