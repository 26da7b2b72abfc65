use Rattle.std.proofs.Common.{◌≡◌, ◌∙◌, Some, None, ap, refl, sym, subst, inl, inr}
use Rattle.std.proofs.lemmas.Option.{same_Some}
use Rattle.model.specs.Map.{get, put, without}
use Rattle.model.specs.Revision.{Rev}
use Rattle.model.specs.Tree.{Tree, IsForest, is_leaf}
use Rattle.revision_runs.specs.declared.run.Run.{Run}
use Rattle.revision_runs.specs.Runs.{RunMap, HangsUnder}
use Rattle.revision_runs.specs.TreeRuns.{AreRuns, AreRunsBut, IsOneChild, IsOnlyChild}
use Rattle.revision_runs.specs.Changes.{AreBefore, IsDropped, IsExtended, IsInside, IsLinked, IsRooted, IsUnlinked}
use Rattle.std.specs.Prelude.{true}
use Rattle.revision_runs.proofs.Climbing.{ends_at_leaf}
use Rattle.revision_runs.proofs.Linking.{linked_to_leaf}
use Rattle.revision_runs.proofs.Moving.{whole}
use Rattle.revision_runs.proofs.links.linked_to_leaf.Goals as goal

pub run_of-below-requires : goal.run_of-below-requires
run_of-below-requires c = let b = c.requires.2 in let link = c.requires.3 in b.runs.all c.args.root (link.root, inl link.none)

pub top_of-top-requires : goal.top_of-top-requires
top_of-top-requires c = let b = c.requires.2 in ends_at_leaf c.requires.0 b.before None c.args.runs (whole c.requires.0 c.args.runs b.runs) c.args.leaf c.requires.4

pub run_of-above-requires : goal.run_of-above-requires
run_of-above-requires c = (c.top_of-top.ensures.run, c.top_of-top.ensures.is)

pub settled_with-requires : goal.settled_with-requires
settled_with-requires c =
    let b = c.requires.2 in
    let e = c.top_of-top.ensures in
    let above = same_Some c.run_of-above.result e.run (sym c.run_of-above.ensures ∙ e.is) in
    let joined : Run = record { fork = c.run_of-above.result.fork; bottom = c.run_of-below.result.bottom; low = c.run_of-below.result.low } in (
      c.requires.1,
      b.after,
      subst (λ (m : RunMap). AreRunsBut c.requires.1 c.run_of-above.result.fork (put m c.top_of-top.result joined)) (sym c.in_ok-others.ensures)
          (linked_to_leaf c.requires.0 c.requires.1 c.args.root c.args.leaf b.after c.requires.3 b.before c.requires.4 c.args.runs b.runs c.run_of-below.result c.run_of-below.ensures c.top_of-top.result c.run_of-above.result c.run_of-above.ensures
          (ap (λ (r : Run). r.bottom) above ∙ e.bottom) joined refl refl refl),
    )

pub returns : goal.returns
returns c = λ t u b link leaf.
    let e = c.top_of-top.ensures in
    let above = same_Some c.run_of-above.result e.run (sym c.run_of-above.ensures ∙ e.is) in
    let joined : Run = record { fork = c.run_of-above.result.fork; bottom = c.run_of-below.result.bottom; low = c.run_of-below.result.low } in
    c.settled_with.ensures u b.after (subst (λ (m : RunMap). AreRunsBut u c.run_of-above.result.fork (put m c.top_of-top.result joined)) (sym c.in_ok-others.ensures)
    (linked_to_leaf t u c.args.root c.args.leaf b.after link b.before leaf c.args.runs b.runs c.run_of-below.result c.run_of-below.ensures c.top_of-top.result c.run_of-above.result c.run_of-above.ensures
    (ap (λ (r : Run). r.bottom) above ∙ e.bottom) joined refl refl refl))
