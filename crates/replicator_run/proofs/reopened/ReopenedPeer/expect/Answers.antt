use Rattle.std.proofs.Common.{subst}
use Rattle.replicator_run.specs.Reopened.{Reopened, GoesOver}
use Rattle.replicator_run.proofs.Again.{over_the_same}
use Rattle.replicator_run.proofs.reopened.ReopenedPeer.expect.Goals as goal

pub returns-clause-goes : goal.returns-clause-goes
returns-clause-goes g c = λ call after went.
    subst (λ (end : Reopened). GoesOver end call after) c.self.view_is (over_the_same _ c.expect.new.self c.self.inside.failures call after c.expect.ensures.goes went)
