use Rattle.std.proofs.Common.{Some, sym, ap, ◌∙◌}
use Rattle.cow_index.proofs.Turns.{turn, left_sorted, right_sorted, find-left, find-right, find-here}
use Rattle.cow_index.proofs.tree.Tree.get.Goals as goal

pub loop-node-preserved-in-Less : goal.loop-node-preserved-in-Less
loop-node-preserved-in-Less g c =
    let at = turn g.K.Ord.cmp c.in-Some.ensures.root c.loop-node.invariant.0 c.in-Less.ensures in
    (left_sorted at, sym (find-left g.met.K.Ord.total at) ∙ c.loop-node.invariant.1)

pub loop-node-preserved : goal.loop-node-preserved
loop-node-preserved g c =
    let at = turn g.K.Ord.cmp c.in-Some.ensures.root c.loop-node.invariant.0 c.in-Greater.ensures in
    (right_sorted at, sym (find-right g.met.K.Ord.total at) ∙ c.loop-node.invariant.1)

pub returns-in-Equal : goal.returns-in-Equal
returns-in-Equal g c =
    let at = turn g.K.Ord.cmp c.in-Some.ensures.root c.loop-node.invariant.0 c.in-Equal.ensures in
    ap (λ e. Some e.value) c.deref-entry.ensures ∙ sym (find-here g.met.K.Ord.total at) ∙ c.loop-node.invariant.1
