use Rattle.std.proofs.Common.{◌≡◌, Some, None, Option, subst}
use Rattle.model.specs.Revision.{Rev}
use Rattle.model.specs.Tree.{Tree, IsForest}
use Rattle.revision_runs.specs.TreeRuns.{AreRuns, AreRunsBut}
use Rattle.revision_runs.proofs.Climbing.{no_hole}
use Rattle.revision_runs.proofs.climb.settled.Goals as goal

pub step-requires : goal.step-requires
step-requires c = (c.requires.0, c.requires.1, subst (λ (o : Option Rev). AreRunsBut c.requires.0 o c.loop-climb.climb.runs) c.in-Some.is (c.loop-climb.invariant c.requires.0 c.requires.1 c.requires.2))

pub returns : goal.returns
returns c = λ t f h. no_hole t c.loop-climb.climb.runs (subst (λ (o : Option Rev). AreRunsBut t o c.loop-climb.climb.runs) c.in_default.is (c.loop-climb.invariant t f h))
