use Rattle.std.proofs.Common.{length, refl, arith}
use Rattle.http_turns.proofs.Feeds.{few, gives_rows}
use Rattle.http_turns.proofs.feed.next_rows.Goals as goal

pub returns : goal.returns
returns g c =
    let k = g.S.Viewer.known c.args.session.now in
    let before = c.args.progress.now in
    let most = c.most_found-most.result in
    let fit = few most before.left _ c.in_ok-rows.ensures.rows c.most_found-most.ensures in
    let rows = c.in_ok-rows.ensures.rows in (
      record { place = length k.seen; rows = c.in_ok-rows.rows.items },
      gives_rows k before most rows c.in_ok-rows.ensures.cursor (omega (arith, fit, c.len.ensures)),
      refl,
      refl,
    )
