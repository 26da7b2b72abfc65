use Rattle.http_workers.proofs.Connections.{none_yet, visit_more}
use Rattle.http_workers.proofs.visiting.visit_each.Goals as goal

pub loop-init : goal.loop-init
loop-init g c = none_yet g.S.Viewer.goes g.S.Viewer.known c.args.setting.now c.args.session.now

pub loop-preserved : goal.loop-preserved
loop-preserved g c = visit_more g.S.Viewer.goes g.S.Viewer.known c.args.setting.now c.args.session.now c.loop.session c.visit-visited.new.session _ c.loop.invariant c.visit-visited.ensures.1

pub returns-in_default : goal.returns-in_default
returns-in_default g c = c.loop.invariant

pub returns : goal.returns
returns g c = c.loop.invariant
