use Rattle.std.proofs.Common.{◌∙◌, arith, refl}
use Rattle.replicator.proofs.Runs.{counts-from, counts-kept, going-on, going-start, kept-counts, run-ended, run-whole}
use Rattle.replicator.proofs.worker.Worker.run.Goals as goal

pub loop-step-init : goal.loop-step-init
loop-step-init g c = record {
  going = going-start g.S.Peer.goes g.T.Peer.goes (record { worker = c.args.self.now; source = c.args.source.now; target = c.args.target.now });
  goes = tt;
  source = refl;
  target = refl;
}

pub returns-then-ends-clause-runs : goal.returns-then-ends-clause-runs
returns-then-ends-clause-runs g c =
    run-ended g.S.Peer.goes g.T.Peer.goes
    (record { worker = c.args.self.now; source = c.args.source.now; target = c.args.target.now })
    (record { worker = c.loop-step.self; source = c.loop-step.source; target = c.loop-step.target })
    (record { worker = c.step-told.new.self; source = c.step-told.new.source; target = c.step-told.new.target })
    c.loop-step._step c.args.steps c.loop-step.last c.step-told.result c.loop-step.invariant.going c.step-told.ensures.steps (c.ends.ensures.ends c.if-ends.true) c.loop-step-test.true

pub returns-then-ends-clause-failures : goal.returns-then-ends-clause-failures
returns-then-ends-clause-failures g c =
    counts-from c.step-told.result (g.S.Peer.failed_calls c.args.source.now) (g.T.Peer.failed_calls c.args.target.now)
    (g.S.Peer.failed_calls c.loop-step.source) (g.T.Peer.failed_calls c.loop-step.target)
    (g.S.Peer.failed_calls c.step-told.new.source) (g.T.Peer.failed_calls c.step-told.new.target)
    c.loop-step.invariant.source c.loop-step.invariant.target c.step-told.ensures.failures

pub loop-step-preserved : goal.loop-step-preserved
loop-step-preserved g c =
    let goes = c.ends.ensures.goes_on c.if-ends.false in
    let kept = counts-kept c.step-told.result (g.S.Peer.failed_calls c.loop-step.source) (g.T.Peer.failed_calls c.loop-step.target)
    (g.S.Peer.failed_calls c.step-told.new.source) (g.T.Peer.failed_calls c.step-told.new.target) goes c.step-told.ensures.failures in
    record {
      going = going-on g.S.Peer.goes g.T.Peer.goes
          (record { worker = c.args.self.now; source = c.args.source.now; target = c.args.target.now })
          (record { worker = c.loop-step.self; source = c.loop-step.source; target = c.loop-step.target })
          (record { worker = c.step-told.new.self; source = c.step-told.new.source; target = c.step-told.new.target })
          c.loop-step._step c.loop-step.last c.step-told.result c.loop-step.invariant.going c.step-told.ensures.steps goes;
      goes = goes;
      source = kept.0 ∙ c.loop-step.invariant.source;
      target = kept.1 ∙ c.loop-step.invariant.target;
    }

pub returns-clause-runs : goal.returns-clause-runs
returns-clause-runs g c =
    run-whole g.S.Peer.goes g.T.Peer.goes
    (record { worker = c.args.self.now; source = c.args.source.now; target = c.args.target.now })
    (record { worker = c.loop-step.self; source = c.loop-step.source; target = c.loop-step.target })
    c.loop-step._step c.args.steps c.loop-step.last c.loop-step.invariant.going (omega arith)

pub returns-clause-failures : goal.returns-clause-failures
returns-clause-failures g c =
    kept-counts c.loop-step.last (g.S.Peer.failed_calls c.args.source.now) (g.T.Peer.failed_calls c.args.target.now)
    (g.S.Peer.failed_calls c.loop-step.source) (g.T.Peer.failed_calls c.loop-step.target)
    c.loop-step.invariant.goes c.loop-step.invariant.source c.loop-step.invariant.target
