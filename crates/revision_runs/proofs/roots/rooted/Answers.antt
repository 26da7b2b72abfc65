use Rattle.std.proofs.Common.{◌≡◌, ◌∙◌, Some, None, ap, refl, sym, subst, inl, inr}
use Rattle.std.proofs.lemmas.Option.{same_Some}
use Rattle.model.specs.Map.{get, put, without}
use Rattle.model.specs.Revision.{Rev}
use Rattle.model.specs.Tree.{Tree, IsForest, is_leaf}
use Rattle.revision_runs.specs.declared.run.Run.{Run}
use Rattle.revision_runs.specs.Runs.{RunMap, HangsUnder}
use Rattle.revision_runs.specs.TreeRuns.{AreRuns, AreRunsBut, IsOneChild, IsOnlyChild}
use Rattle.revision_runs.specs.Changes.{AreBefore, IsDropped, IsExtended, IsInside, IsLinked, IsRooted, IsUnlinked}
use Rattle.revision_runs.proofs.Rooting.{rooted_runs}
use Rattle.revision_runs.proofs.roots.rooted.Goals as goal

pub returns : goal.returns
returns c = λ t u b root.
    subst (AreRuns u) (sym c.in_ok-grown.ensures)
    (rooted_runs t u c.args.root b.before root c.args.runs b.runs (record { fork = None; bottom = c.args.root; low = c.generation.result }) refl refl c.generation.ensures.value)
