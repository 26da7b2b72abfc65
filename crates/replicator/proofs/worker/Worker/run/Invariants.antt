use Rattle.std.proofs.Common.{◌≡◌}
use Rattle.replicator.specs.Run.{GoesOn}
use Rattle.replicator.proofs.Runs.{IsGoing}
use Rattle.replicator.proofs.worker.Worker.run.Given as goal

abbrev pub invariant-loop-step : goal.invariant-loop-step
invariant-loop-step g l = record {
  going : IsGoing g.S.Peer.goes g.T.Peer.goes
      (record { worker = l.fn.self; source = l.fn.source; target = l.fn.target })
      (record { worker = l.self; source = l.source; target = l.target }) l._step l.last;
  goes : GoesOn l.last;
  source : g.S.Peer.failed_calls l.source ≡ g.S.Peer.failed_calls l.fn.source;
  target : g.T.Peer.failed_calls l.target ≡ g.T.Peer.failed_calls l.fn.target;
}
