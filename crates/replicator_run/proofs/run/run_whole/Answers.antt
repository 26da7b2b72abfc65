use Rattle.std.proofs.Common.{false}
use Rattle.replicator_run.proofs.Reports.{runs_between}
use Rattle.replicator_run.proofs.run.run_whole.Goals as goal

pub returns : goal.returns
returns g c = λ id ids is_fresh.
    runs_between false g.S.Peer.goes g.T.Peer.goes g.S.Peer.failed_calls g.T.Peer.failed_calls id ids c.report.result
    c.args.worker c.run-ended.new.self c.args.source c.run-ended.new.source c.args.target c.run-ended.new.target c.run-ended.result
    is_fresh c.run-ended.ensures.runs c.report.ensures
