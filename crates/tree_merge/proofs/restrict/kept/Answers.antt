use Rattle.std.proofs.Common.{ap}
use Rattle.std.specs.Prelude.{is_some, nat_lt}
use Rattle.revision_tree.specs.Nodes.{entries_of, tree_of}
use Rattle.revision_tree.proofs.Places.{knows_parent}
use Rattle.model.proofs.TreeLaws.{parent_in}
use Rattle.tree_merge.specs.Reach.{kept_of}
use Rattle.tree_merge.proofs.Raised.{listed_got, kept_more, kept_all}
use Rattle.tree_merge.proofs.restrict.kept.Goals as goal

pub keep-requires-clause-known : goal.keep-requires-clause-known
keep-requires-clause-known c = ap is_some (listed_got c.args.nodes.now (tree_of c.args.nodes.now) c.loop-node.node-index c.node-item.result c.requires.listed c.loop-node-test.true c.node-item.is)

pub keep-requires-clause-parent : goal.keep-requires-clause-parent
keep-requires-clause-parent c =
    let n = c.node-item.result in
    knows_parent (tree_of c.args.nodes.now) n.rev n.parent c.requires.listed.tree (ap parent_in (listed_got c.args.nodes.now (tree_of c.args.nodes.now) c.loop-node.node-index n c.requires.listed c.loop-node-test.true c.node-item.is))

pub loop-node-preserved : goal.loop-node-preserved
loop-node-preserved c = λ g e.
    kept_more (kept_of (λ r. nat_lt 0 (g r))) c.args.nodes.now c.loop-node.node-index c.node-item.result (entries_of c.loop-node.kept.items) (entries_of c.keep.new.kept.items) c.loop-node-test.true c.node-item.is
    (c.loop-node.invariant g e) (c.in_ok-keep.ensures g e)

pub returns : goal.returns
returns c = λ g e. kept_all (λ r. nat_lt 0 (g r)) c.args.nodes.now (tree_of c.args.nodes.now) c.loop-node.node-index (entries_of c.loop-node.kept.items) c.requires.listed c.loop-node-test.false (c.loop-node.invariant g e)
