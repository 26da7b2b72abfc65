use Rattle.std.proofs.Common.{◌∙◌, sym, ap, map}
use Rattle.std.specs.BTreeSet.{contains}
use Rattle.std.proofs.lemmas.List.{take_all}
use Rattle.model.specs.Revision.{rev_cmp}
use Rattle.tree_merge.specs.Reach.{first_mark}
use Rattle.tree_merge.proofs.Raised.{marks_by, marks_of_nodes, marked_more, told_mark}
use Rattle.tree_merge.proofs.reach.first_marks.Goals as goal

pub loop-node-preserved : goal.loop-node-preserved
loop-node-preserved c =
    let named = c.args.named.now in
    let t = c.args.tree.now in
    let n = c.node-item.result in
    let told = told_mark c.args.limit named t n.rev (contains rev_cmp c.in_ok-named.named n.rev) (c.in_ok-named.ensures.has n.rev) in
    marked_more (first_mark c.args.limit named t) c.args.nodes.now c.loop-node.node-index c.mark_of.result n c.loop-node.marks.items c.push.new.self.items c.loop-node-test.true c.node-item.is c.loop-node.invariant
    (c.mark_of.ensures ∙ told) c.in_ok-push.ensures.items

pub returns : goal.returns
returns c =
    let g = first_mark c.args.limit c.args.named.now c.args.tree.now in
    let nodes = c.args.nodes.now in
    c.loop-node.invariant ∙ ap (map (λ n. g n.rev)) (take_all c.loop-node.node-index nodes c.loop-node-test.false) ∙ marks_of_nodes g nodes ∙ ap (marks_by g) (sym c.requires.entries)
