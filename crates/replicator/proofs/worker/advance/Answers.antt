use Rattle.std.proofs.Common.{ap}
use Rattle.replicator.specs.Stage.{Paged, Ready, SourceRead, Unread}
use Rattle.replicator.specs.Stages.{learned_of, stage_of}
use Rattle.replicator.proofs.Turns.{of-source, of-target}
use Rattle.replicator.proofs.worker.advance.Goals as goal

pub returns-in-Unread-clause-exchanges : goal.returns-in-Unread-clause-exchanges
returns-in-Unread-clause-exchanges g c = of-source g.S.Peer.goes g.T.Peer.goes c.args.job.now Unread (stage_of c.args.stage) c.args.source.now c.read_source.new.source c.args.target.now (learned_of c.read_source.result) (ap stage_of c.in-Unread.is) c.read_source.ensures.called

pub returns-in-SourceRead-clause-exchanges : goal.returns-in-SourceRead-clause-exchanges
returns-in-SourceRead-clause-exchanges g c = of-target g.S.Peer.goes g.T.Peer.goes c.args.job.now (SourceRead c.in-SourceRead.of_source) (stage_of c.args.stage) c.args.source.now c.args.target.now c.read_target.new.target (learned_of c.read_target.result) (ap stage_of c.in-SourceRead.is) c.read_target.ensures.called

pub returns-in-Ready-clause-exchanges : goal.returns-in-Ready-clause-exchanges
returns-in-Ready-clause-exchanges g c = of-source g.S.Peer.goes g.T.Peer.goes c.args.job.now (Ready c.in-Ready.ends) (stage_of c.args.stage) c.args.source.now c.ask_changes.new.source c.args.target.now (learned_of c.ask_changes.result) (ap stage_of c.in-Ready.is) c.ask_changes.ensures.called

pub returns-in-Paged-clause-exchanges : goal.returns-in-Paged-clause-exchanges
returns-in-Paged-clause-exchanges g c = of-target g.S.Peer.goes g.T.Peer.goes c.args.job.now (Paged c.in-Paged.ends c.in-Paged.page) (stage_of c.args.stage) c.args.source.now c.args.target.now c.ask_difference.new.target (learned_of c.ask_difference.result) (ap stage_of c.in-Paged.is) c.ask_difference.ensures.called
