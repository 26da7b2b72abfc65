use Rattle.std.proofs.Common.{Bool, true, false, subst, sym}
use Rattle.replicator_run.specs.Report.{Replicates}
use Rattle.replicator_run.proofs.Reports.{replicates}
use Rattle.replicator_run.proofs.run.replicate.Goals as goal

pub returns-then-skips : goal.returns-then-skips
returns-then-skips g c =
    subst (λ (skips : Bool). Replicates skips g.S.Peer.goes g.T.Peer.goes g.S.Peer.failed_calls g.T.Peer.failed_calls c.args.id c.args.ids c.args.source c.args.target c.run_skipping.result)
    (sym c.if-skips.true)
    (replicates true g.S.Peer.goes g.T.Peer.goes g.S.Peer.failed_calls g.T.Peer.failed_calls c.args.id c.args.ids c.run_skipping.result c.args.source c.args.target
    c.new-source.result c.new-target.result c.new-source.ensures c.new-target.ensures (c.run_skipping.ensures c.args.id c.args.ids c.worker_of-worker.ensures))

pub returns : goal.returns
returns g c =
    subst (λ (skips : Bool). Replicates skips g.S.Peer.goes g.T.Peer.goes g.S.Peer.failed_calls g.T.Peer.failed_calls c.args.id c.args.ids c.args.source c.args.target c.run_whole.result)
    (sym c.if-skips.false)
    (replicates false g.S.Peer.goes g.T.Peer.goes g.S.Peer.failed_calls g.T.Peer.failed_calls c.args.id c.args.ids c.run_whole.result c.args.source c.args.target
    c.new-source.result c.new-target.result c.new-source.ensures c.new-target.ensures (c.run_whole.ensures c.args.id c.args.ids c.worker_of-worker.ensures))
