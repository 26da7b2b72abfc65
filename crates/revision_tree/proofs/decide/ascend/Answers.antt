use Rattle.std.proofs.Common.{◌≡◌, ◌+◌, ◌∷◌, ◌∙◌, add-one, ap, arith, drop, rules, subst, suc, sym, Less}
use Rattle.std.proofs.Math.Seq.{drop-cons}
use Rattle.model.specs.Revision.{rev_cmp}
use Rattle.revision_tree.specs.Nodes.{IsSorted}
use Rattle.revision_tree.specs.declared.node.Node.{Node}
use Rattle.revision_tree.proofs.Deciding.{ascends-rest, ascends-cons}
use Rattle.revision_tree.proofs.decide.ascend.Goals as goal

pub loop-node-preserved : goal.loop-node-preserved
loop-node-preserved c =
    let rest = c.in-Some.rest.now in
    let i = c.loop-node.node-index in
    let next : Node = c.node-item.result in
    let last : Node = c.loop-node.last.now in
    let e : drop i rest ≡ next ∷ drop (i + 1) rest = rw add-one (drop-cons rest i next (omega arith) ∙ ap (λ m. m ∷ drop (suc i) rest) (sym c.node-item.is)) in
    let below : rev_cmp last.rev next.rev ≡ Less = search rules in (
      λ p. ascends-rest last next _ (subst (λ r. IsSorted (last ∷ r)) e (c.loop-node.invariant.0 p)),
      λ p. c.loop-node.invariant.1 (subst (λ r. IsSorted (last ∷ r)) (sym e) (ascends-cons last next _ below p)),
    )
