use Rattle.std.proofs.Common.{◌+◌, [], None, Some, refl, sym, subst, arith}
use Rattle.http_workers.proofs.Connections.{Accepted, one_more, served_all, served_some}
use Rattle.http_workers.proofs.accepting.work.Goals as goal
use Rattle.http_workers.proofs.accepting.work.Goals.{in-Ok, in-Err}

pub loop-init : goal.loop-init
loop-init g c = ([], refl, refl)

pub loop-preserved : goal.loop-preserved
loop-preserved g c =
    let goes = g.S.Viewer.goes in
    let known = g.S.Viewer.known in
    elim c.match-accept.branch [
      | in-Ok w ↦ subst (Accepted goes known c.args.setting.now (c.loop.counter + 1) c.args.session.now) (sym w.session-is)
          (one_more goes known c.args.setting.now c.loop.counter _ c.loop.session _ (Some w.serve_socket.ensures.0) c.loop.invariant w.serve_socket.ensures.1)
      | in-Err w ↦ subst (Accepted goes known c.args.setting.now (c.loop.counter + 1) c.args.session.now) (sym w.session-is)
          (one_more goes known c.args.setting.now c.loop.counter _ c.loop.session _ None c.loop.invariant refl)
    ]

-- the flag was set
pub returns-then-is_set : goal.returns-then-is_set
returns-then-is_set g c =
    served_some g.S.Viewer.goes g.S.Viewer.known c.args.setting.now _ c.loop.counter c.args.terms.connections _ _ (c.is_set.ensures.given c.if-is_set.true) c.loop.invariant (omega (arith, c.loop.auto, c.most_of-end.ensures))

pub returns : goal.returns
returns g c =
    served_all g.S.Viewer.goes g.S.Viewer.known c.args.setting.now _ c.loop.counter c.args.terms.connections _ _ c.loop.invariant (omega (arith, c.loop-test.false, c.loop.auto, c.most_of-end.ensures))
