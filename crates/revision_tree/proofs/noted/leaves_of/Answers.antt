use Rattle.std.proofs.Common.{◌∙◌, subst}
use Rattle.std.proofs.lemmas.Iterator.Consumers.{YieldsList-end, YieldsList-from_first}
use Rattle.revision_tree.specs.Ranks.{AreOuter}
use Rattle.revision_tree.specs.Rows.{nodes_of}
use Rattle.revision_tree.specs.Walk.{left_of}
use Rattle.revision_tree.proofs.Outer.{outer_leaves}
use Rattle.revision_tree.proofs.noted.leaves_of.Goals as goal

pub returns : goal.returns
returns c =
    let all = left_of c.all-node-items.result in
    let t = YieldsList-end (YieldsList-from_first (λ x. x.now) left_of {s = c.into_iter-node-iterator.result} all cc) c.loop-node.yielded _ c.loop-node.yielded_by _ c.next.new.self c.in-None.is c.next.ensures.steps in
    let es = c.loop-node.leaves.entries in
    outer_leaves (nodes_of c.args.rows.now) c.requires.nodes es (subst (λ ns. AreOuter ns es) (t.0 ∙ c.all-node-items.ensures) c.loop-node.invariant)
