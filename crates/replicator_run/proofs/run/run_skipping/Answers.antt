use Rattle.std.proofs.Common.{true}
use Rattle.replicator_run.proofs.Reports.{runs_from}
use Rattle.replicator_run.proofs.run.run_skipping.Goals as goal

pub returns : goal.returns
returns g c = λ id ids is_fresh.
    runs_from true g.S.Peer.goes g.T.Peer.goes g.S.Peer.failed_calls g.T.Peer.failed_calls id ids c.report-3.result
    c.args.worker c.run-ended.new.self c.new-source.result c.args.source c.run-ended.new.source c.into_inner.result
    c.new-target.result c.args.target c.run-ended.new.target c.into_inner-2.result c.run-ended.result
    is_fresh c.new-source.ensures c.new-target.ensures c.into_inner.ensures c.into_inner-2.ensures c.run-ended.ensures.runs c.report-3.ensures
