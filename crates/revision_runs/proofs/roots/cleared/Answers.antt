use Rattle.std.proofs.Common.{◌≡◌, subst, sym}
use Rattle.revision_runs.specs.Runs.{RunMap}
use Rattle.revision_runs.specs.TreeRuns.{AreRuns}
use Rattle.revision_runs.proofs.Clearing.{cleared_runs}
use Rattle.revision_runs.proofs.roots.cleared.Goals as goal

pub returns : goal.returns
returns c = λ t u leaf b gone lone. subst (λ (m : RunMap). AreRuns u m) (sym c.in_ok-left.ensures) (cleared_runs t leaf b.before gone.at_leaf c.args.runs b.runs c.args.root lone u gone)
