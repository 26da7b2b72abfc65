use Rattle.std.proofs.Common.{subst}
use Rattle.replicator_run.specs.Counted.{Counted, Counts}
use Rattle.replicator_run.proofs.counted.CountedPeer.expect.Goals as goal

pub returns-clause-goes : goal.returns-clause-goes
returns-clause-goes g c = λ call after counts.
    subst (λ (k : Counted _). Counts g.P.Peer.goes k call after) c.self.view_is (record {
      goes = c.expect.ensures.goes call after.end counts.goes;
      counted = counts.counted;
    })
