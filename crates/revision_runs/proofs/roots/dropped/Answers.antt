use Rattle.std.proofs.Common.{◌≡◌, ◌∙◌, Some, None, ap, refl, sym, subst, inl, inr}
use Rattle.std.proofs.lemmas.Option.{same_Some}
use Rattle.model.specs.Map.{get, put, without}
use Rattle.model.specs.Revision.{Rev}
use Rattle.model.specs.Tree.{Tree, IsForest, is_leaf}
use Rattle.revision_runs.specs.declared.run.Run.{Run}
use Rattle.revision_runs.specs.Runs.{RunMap, HangsUnder}
use Rattle.revision_runs.specs.TreeRuns.{AreRuns, AreRunsBut, IsOneChild, IsOnlyChild}
use Rattle.revision_runs.specs.Changes.{AreBefore, IsDropped, IsExtended, IsInside, IsLinked, IsRooted, IsUnlinked}
use Rattle.revision_runs.proofs.Dropping.{down_to, dropped_runs}
use Rattle.revision_runs.proofs.roots.dropped.Goals as goal

pub run_of-run-requires : goal.run_of-run-requires
run_of-run-requires c = let b = c.requires.2 in let gone = c.requires.3 in b.runs.all c.args.root (gone.root, inl gone.top)

pub returns : goal.returns
returns c = λ t u b gone only.
    let lower : Run = record { fork = None; bottom = c.run_of-run.result.bottom; low = c.run_of-run.result.low } in
    let down = down_to t b.before c.args.runs b.runs c.args.root c.args.child only c.run_of-run.result c.run_of-run.ensures in
    subst (AreRuns u) (sym (c.in_ok-left.ensures ∙ ap (λ (m : RunMap). put m c.args.child lower) c.in_ok-others.ensures))
    (dropped_runs t u c.args.root b.before gone c.args.runs b.runs c.args.child only c.run_of-run.result c.run_of-run.ensures down.0 down.1 lower refl refl refl)
