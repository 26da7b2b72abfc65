use Rattle.std.proofs.Common.{false, refl}
use Rattle.http_framing.specs.Input.{Refused}
use Rattle.http_turns.specs.Sent.{turn_of}
use Rattle.http_turns.proofs.Told.{answers-closes, answers-whole}
use Rattle.http_turns.proofs.connection.LentServiceSetting.refuse.Goals as goal

pub returns-in_default-clause-turn : goal.returns-in_default-clause-turn
returns-in_default-clause-turn g c =
    let turn = turn_of (Refused c.args.fault) c.refuse-sent.result in
    let answers = c.refuse-sent.ensures c.args._setting.now in (
      record turn { whole = false },
      record { of_item = refl; answered = (answers-whole g.S.Viewer.goes g.S.Viewer.known c.args._setting.now _ _ turn false refl answers, refl); closes = answers-closes g.S.Viewer.goes g.S.Viewer.known c.args._setting.now _ _ turn answers },
      c.in_default.ensures.written,
      refl,
    )

pub returns-clause-turn : goal.returns-clause-turn
returns-clause-turn g c =
    let turn = turn_of (Refused c.args.fault) c.refuse-sent.result in
    let answers = c.refuse-sent.ensures c.args._setting.now in (
      turn,
      record { of_item = refl; answered = (answers, refl); closes = answers-closes g.S.Viewer.goes g.S.Viewer.known c.args._setting.now _ _ turn answers },
      c.in-Ok.ensures.written,
      refl,
    )
