use Rattle.std.proofs.Common.{None, Some}
use Rattle.http_workers.proofs.Connections.{answered, passed_on}
use Rattle.http_workers.proofs.visiting.visit.Goals as goal

pub returns-then-not-catch_up : goal.returns-then-not-catch_up
returns-then-not-catch_up g c =
    let looks = c.catch_up.ensures.catches_up in (
      None,
      passed_on g.S.Viewer.goes g.S.Viewer.known c.args.setting.now c.args.session.now c.catch_up.new.session looks.0 _ _ c.place_of.ensures looks.1 (c.catch_up.ensures.little c.if-not-catch_up.true),
    )

pub returns : goal.returns
returns g c =
    let looks = c.catch_up.ensures.catches_up in
    let serves = c.answer.ensures.serves in (
      Some serves.0,
      answered g.S.Viewer.goes g.S.Viewer.known c.args.setting.now c.args.session.now c.catch_up.new.session c.answer.new.session looks.0 _ _ _ _ serves.0 c.place_of.ensures looks.1
          (c.catch_up.ensures.enough c.if-not-catch_up.false) serves.1 c.answer.ensures.whole c.answer.ensures.leaves,
    )
