use Rattle.std.proofs.Common.{false, refl}
use Rattle.std.specs.Prelude.{is_ok}
use Rattle.http_framing.specs.Input.{Requested}
use Rattle.http_turns.specs.Sent.{turn_of}
use Rattle.http_turns.specs.Replies.{long_turn}
use Rattle.http_turns.proofs.LongAnswers.{long_taken}
use Rattle.http_turns.proofs.Told.{answers-closes, answers-whole}
use Rattle.http_turns.proofs.connection.LentServiceSetting.answer.Goals as goal

pub returns-in-Sent-clause-turn : goal.returns-in-Sent-clause-turn
returns-in-Sent-clause-turn g c =
    let turn = turn_of (Requested c.args.request.now) c.in-Sent.sent in
    let whole = is_ok c.send.result in (
      record turn { whole = whole },
      record { of_item = refl; answered = (answers-whole g.S.Viewer.goes g.S.Viewer.known c.args.setting.now _ _ turn whole refl c.in-Sent.ensures, refl); closes = answers-closes g.S.Viewer.goes g.S.Viewer.known c.args.setting.now _ _ turn c.in-Sent.ensures },
      c.send.ensures.written,
      refl,
      c.send.ensures.closes,
    )

pub returns-in-Long-clause-turn : goal.returns-in-Long-clause-turn
returns-in-Long-clause-turn g c =
    let long = c.in-Long.long in
    let turn = long_turn (Requested c.args.request.now) long in
    let answers = c.in-Long.ensures in
    long_taken _ _ _ c.args.request.now long _ _ c.send_long.result (answers.whole, refl) (λ n lt. (answers.cut n lt, refl))
    (answers-whole g.S.Viewer.goes g.S.Viewer.known c.args.setting.now _ _ turn false refl answers.whole, refl)
    (answers-closes g.S.Viewer.goes g.S.Viewer.known c.args.setting.now _ _ turn answers.whole)
    c.send_long.ensures.sends
