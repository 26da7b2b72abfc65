use Rattle.std.proofs.Common.{◌≡◌, ◌∙◌, Some, None, ap, refl, sym, subst, inl, inr}
use Rattle.std.proofs.lemmas.Option.{same_Some}
use Rattle.model.specs.Map.{get, put, without}
use Rattle.model.specs.Revision.{Rev}
use Rattle.model.specs.Tree.{Tree, IsForest, is_leaf}
use Rattle.revision_runs.specs.declared.run.Run.{Run}
use Rattle.revision_runs.specs.Runs.{RunMap, HangsUnder}
use Rattle.revision_runs.specs.TreeRuns.{AreRuns, AreRunsBut, IsOneChild, IsOnlyChild}
use Rattle.revision_runs.specs.Changes.{AreBefore, IsDropped, IsExtended, IsInside, IsLinked, IsRooted, IsUnlinked}
use Rattle.revision_runs.proofs.Rooting.{extended_runs}
use Rattle.revision_runs.proofs.roots.extended.Goals as goal

pub run_of-run-requires : goal.run_of-run-requires
run_of-run-requires c = let b = c.requires.2 in let link = c.requires.3 in b.runs.all c.args.root (link.root, inl link.none)

pub returns : goal.returns
returns c = λ t u b new.
    let higher : Run = record { fork = None; bottom = c.run_of-run.result.bottom; low = c.run_of-run.result.low } in
    subst (AreRuns u) (sym (c.in_ok-grown.ensures ∙ ap (λ (m : RunMap). put m c.args.parent higher) c.in_ok-others.ensures))
    (extended_runs t u c.args.root c.args.parent b.before new c.args.runs b.runs c.run_of-run.result c.run_of-run.ensures higher refl refl refl)
