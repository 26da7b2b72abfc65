use Rattle.std.proofs.Common.{subst}
use Rattle.replicator_run.specs.Skipped.{Skips}
use Rattle.replicator_run.proofs.Skips.{under}
use Rattle.replicator_run.proofs.skipping.SkippingPeer.expect.Goals as goal

pub returns-clause-goes : goal.returns-clause-goes
returns-clause-goes g c = λ call after went.
    subst (λ end. Skips g.P.Peer.goes end call after) c.self.view_is (under g.P.Peer.goes c.self.inside.peer c.expect.new.self after call c.expect.ensures.goes went)
