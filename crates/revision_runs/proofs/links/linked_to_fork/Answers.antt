use Rattle.std.proofs.Common.{◌≡◌, ◌∙◌, Some, None, ap, refl, sym, subst, inl, inr}
use Rattle.std.proofs.lemmas.Option.{same_Some}
use Rattle.model.specs.Map.{get, put, without}
use Rattle.model.specs.Revision.{Rev}
use Rattle.model.specs.Tree.{Tree, IsForest, is_leaf}
use Rattle.revision_runs.specs.declared.run.Run.{Run}
use Rattle.revision_runs.specs.Runs.{RunMap, HangsUnder}
use Rattle.revision_runs.specs.TreeRuns.{AreRuns, AreRunsBut, IsOneChild, IsOnlyChild}
use Rattle.revision_runs.specs.Changes.{AreBefore, IsDropped, IsExtended, IsInside, IsLinked, IsRooted, IsUnlinked}
use Rattle.revision_runs.proofs.Forking.{linked_to_fork}
use Rattle.revision_runs.proofs.links.linked_to_fork.Goals as goal

pub run_of-below-requires : goal.run_of-below-requires
run_of-below-requires c = let b = c.requires.2 in let link = c.requires.3 in b.runs.all c.args.root (link.root, inl link.none)

pub settled_with-requires : goal.settled_with-requires
settled_with-requires c =
    let b = c.requires.2 in
    let hung : Run = record { fork = Some c.args.fork; bottom = c.run_of-below.result.bottom; low = c.run_of-below.result.low } in
    (c.requires.1, b.after, (linked_to_fork c.requires.0 c.requires.1 c.args.root c.args.fork b.before b.after c.requires.3 c.args.runs b.runs c.requires.4 c.requires.5 c.run_of-below.result c.run_of-below.ensures hung refl refl refl))

pub returns : goal.returns
returns c = λ t u top b link under.
    let hung : Run = record { fork = Some c.args.fork; bottom = c.run_of-below.result.bottom; low = c.run_of-below.result.low } in
    c.settled_with.ensures u b.after ((linked_to_fork t u c.args.root c.args.fork b.before b.after link c.args.runs b.runs top under c.run_of-below.result c.run_of-below.ensures hung refl refl refl))
