use Rattle.std.proofs.Common.{◌≡◌, ◌∙◌, Some, None, ap, refl, sym, subst, inl, inr}
use Rattle.std.proofs.lemmas.Option.{same_Some}
use Rattle.model.specs.Map.{get, put, without}
use Rattle.model.specs.Revision.{Rev}
use Rattle.model.specs.Tree.{Tree, IsForest, is_leaf}
use Rattle.revision_runs.specs.declared.run.Run.{Run}
use Rattle.revision_runs.specs.Runs.{RunMap, HangsUnder}
use Rattle.revision_runs.specs.TreeRuns.{AreRuns, AreRunsBut, IsOneChild, IsOnlyChild}
use Rattle.revision_runs.specs.Changes.{AreBefore, IsDropped, IsExtended, IsInside, IsLinked, IsRooted, IsUnlinked}
use Rattle.revision_runs.specs.TreeRuns.{IsWay}
use Rattle.revision_runs.proofs.Parting.{parted_runs}
use Rattle.revision_runs.proofs.links.linked_inside.Goals as goal

pub run_of-below-requires : goal.run_of-below-requires
run_of-below-requires c = let b = c.requires.2 in let link = c.requires.3 in b.runs.all c.args.root (link.root, inl link.none)

pub run_of-run-requires : goal.run_of-run-requires
run_of-run-requires c = (c.requires.4.run, c.requires.4.is)

pub settled_with-requires : goal.settled_with-requires
settled_with-requires c =
    let b = c.requires.2 in
    let i = c.requires.4 in
    let run = same_Some c.run_of-run.result i.run (sym c.run_of-run.ensures ∙ i.is) in
    let lower : Run = record { fork = Some c.args.parent; bottom = c.run_of-run.result.bottom; low = c.run_of-run.result.low } in
    let hung : Run = record { fork = Some c.args.parent; bottom = c.run_of-below.result.bottom; low = c.run_of-below.result.low } in
    let upper : Run = record { fork = c.run_of-run.result.fork; bottom = c.args.parent; low = c.run_of-run.result.low } in
    let same = c.in_ok-with_hung.ensures ∙ ap (λ (m : RunMap). put m c.args.root hung) c.in_ok-with_lower.ensures in (
      c.requires.1,
      b.after,
      subst (λ (m : RunMap). AreRunsBut c.requires.1 (Some c.args.parent) (put m c.args.top upper)) (sym same)
          (parted_runs c.requires.0 c.requires.1 c.args.root c.args.parent b.before b.after c.requires.3 c.args.runs b.runs c.args.child i.only c.args.top c.run_of-run.result c.run_of-run.ensures i.below
          (subst (λ q. IsWay c.requires.0 i.below q c.args.child) (sym (ap (λ (r : Run). r.bottom) run)) i.down) i.above i.up c.run_of-below.result c.run_of-below.ensures upper lower hung refl refl refl refl refl refl refl refl refl),
    )

pub returns : goal.returns
returns c = λ t u b link i.
    let run = same_Some c.run_of-run.result i.run (sym c.run_of-run.ensures ∙ i.is) in
    let lower : Run = record { fork = Some c.args.parent; bottom = c.run_of-run.result.bottom; low = c.run_of-run.result.low } in
    let hung : Run = record { fork = Some c.args.parent; bottom = c.run_of-below.result.bottom; low = c.run_of-below.result.low } in
    let upper : Run = record { fork = c.run_of-run.result.fork; bottom = c.args.parent; low = c.run_of-run.result.low } in
    let same = c.in_ok-with_hung.ensures ∙ ap (λ (m : RunMap). put m c.args.root hung) c.in_ok-with_lower.ensures in
    c.settled_with.ensures u b.after (subst (λ (m : RunMap). AreRunsBut u (Some c.args.parent) (put m c.args.top upper)) (sym same)
    (parted_runs t u c.args.root c.args.parent b.before b.after link c.args.runs b.runs c.args.child i.only c.args.top c.run_of-run.result c.run_of-run.ensures i.below
    (subst (λ q. IsWay t i.below q c.args.child) (sym (ap (λ (r : Run). r.bottom) run)) i.down) i.above i.up c.run_of-below.result c.run_of-below.ensures upper lower hung refl refl refl refl refl refl refl refl refl))
