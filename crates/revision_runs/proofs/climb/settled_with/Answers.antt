use Rattle.std.proofs.Common.{◌≡◌, subst, sym}
use Rattle.revision_runs.specs.Runs.{RunMap}
use Rattle.revision_runs.specs.TreeRuns.{AreRunsBut}
use Rattle.revision_runs.proofs.climb.settled_with.Goals as goal

pub settled-requires : goal.settled-requires
settled-requires c = (c.requires.0, c.requires.1, subst (λ (m : RunMap). AreRunsBut c.requires.0 c.args.fork m) (sym c.in_ok-changed.ensures) c.requires.2)

pub returns : goal.returns
returns c = λ t f h. c.settled.ensures t f (subst (λ (m : RunMap). AreRunsBut t c.args.fork m) (sym c.in_ok-changed.ensures) h)
