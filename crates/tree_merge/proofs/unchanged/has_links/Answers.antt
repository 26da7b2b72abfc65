use Rattle.std.proofs.Common.{◌∙◌, Some, ap, subst, sym, arith}
use Rattle.std.proofs.lemmas.List.{take_all}
use Rattle.model.proofs.TreeLaws.{is_at-equal}
use Rattle.model.specs.Tree.{parent_of}
use Rattle.tree_merge.specs.Links.{IsLinked}
use Rattle.tree_merge.proofs.Unaltered.{links_first, links_next}
use Rattle.tree_merge.proofs.unchanged.has_links.Goals as goal

pub loop-place-init : goal.loop-place-init
loop-place-init c = links_first c.args.tree.now c.args.path.now

pub loop-place-preserved : goal.loop-place-preserved
loop-place-preserved c =
    let t = c.args.tree.now in
    let r = c.index-path-place.result in
    let next = c.index-path-place-in-loop-place.result in
    let parent = sym c.parent_of.ensures ∙ (is_at-equal c.parent_of.result next).0 (sym c.is_parent.ensures ∙ c.if-not-is_parent.false) in
    links_next t c.args.path.now c.loop-place.place r next (omega (arith, c.loop-place.auto.place)) (omega (arith, c.loop-place-test.true, c.loop-place.auto.place-end))
    (ap (parent_of t) (sym c.index-path-place.is) ∙ parent ∙ ap Some c.index-path-place-in-loop-place.is) c.loop-place.invariant

pub returns : goal.returns
returns c = λ _. subst (IsLinked c.args.tree.now) (take_all c.loop-place.place c.args.path.now (omega (arith, c.loop-place-test.false))) c.loop-place.invariant
