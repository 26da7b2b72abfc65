use Rattle.std.proofs.Common.{refl}
use Rattle.replicator.specs.Stage.{Passing}
use Rattle.replicator.specs.Stages.{learned_of}
use Rattle.replicator.proofs.Turns.{of-source, of-target}
use Rattle.replicator.proofs.worker.pass_on.Goals as goal

pub returns-in-Open-clause-exchanges : goal.returns-in-Open-clause-exchanges
returns-in-Open-clause-exchanges g c = of-source g.S.Peer.goes g.T.Peer.goes c.args.job.now (Passing c.args.pass) (Passing c.args.pass) c.args.source.now c.open.new.source c.args.target.now (learned_of c.open.result) refl c.open.ensures.called

pub returns-in-Send-clause-exchanges : goal.returns-in-Send-clause-exchanges
returns-in-Send-clause-exchanges g c = of-target g.S.Peer.goes g.T.Peer.goes c.args.job.now (Passing c.args.pass) (Passing c.args.pass) c.args.source.now c.args.target.now c.send.new.target (learned_of c.send.result) refl c.send.ensures.called

pub returns-in-MarkTarget-clause-exchanges : goal.returns-in-MarkTarget-clause-exchanges
returns-in-MarkTarget-clause-exchanges g c = of-target g.S.Peer.goes g.T.Peer.goes c.args.job.now (Passing c.args.pass) (Passing c.args.pass) c.args.source.now c.args.target.now c.mark_target.new.target (learned_of c.mark_target.result) refl c.mark_target.ensures.called

pub returns-in-MarkSource-clause-exchanges : goal.returns-in-MarkSource-clause-exchanges
returns-in-MarkSource-clause-exchanges g c = of-source g.S.Peer.goes g.T.Peer.goes c.args.job.now (Passing c.args.pass) (Passing c.args.pass) c.args.source.now c.mark_source.new.source c.args.target.now (learned_of c.mark_source.result) refl c.mark_source.ensures.called
