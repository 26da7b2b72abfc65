use Rattle.std.proofs.Common.{arith}
use Rattle.std.specs.Ordering.{is_le}
use Rattle.cow_index.proofs.Filters.{length_filter_le}
use Rattle.cow_index.proofs.Turns.{turn, left_sorted, right_sorted, length-from-left, length-from-right, length-from-here}
use Rattle.cow_index.proofs.tree.Tree.count_from.Goals as goal

pub loop-node-preserved-in-Less : goal.loop-node-preserved-in-Less
loop-node-preserved-in-Less g c =
    let at = turn g.K.Ord.cmp c.in-Some.ensures.root c.loop-node.invariant.0 c.in-Less.ensures in
    (left_sorted at, omega (arith, at.root.lengths, length-from-left g.met.K.Ord.total at, c.loop-node.invariant.1))

pub overflow_sub-count : goal.overflow_sub-count
overflow_sub-count g c =
    let at = turn g.K.Ord.cmp c.in-Some.ensures.root c.loop-node.invariant.0 c.in-Greater.ensures in
    let some_right = length_filter_le (λ e. is_le (g.K.Ord.cmp c.args.key.now e.0)) c.in-Some.node.now.right.0 in
    omega (arith, at.root.lengths, length-from-right g.met.K.Ord.total at, some_right, c.loop-node.invariant.1, c.len.ensures.count)

pub loop-node-preserved : goal.loop-node-preserved
loop-node-preserved g c =
    let at = turn g.K.Ord.cmp c.in-Some.ensures.root c.loop-node.invariant.0 c.in-Greater.ensures in
    let some_right = length_filter_le (λ e. is_le (g.K.Ord.cmp c.args.key.now e.0)) c.in-Some.node.now.right.0 in
    (right_sorted at, omega (arith, at.root.lengths, length-from-right g.met.K.Ord.total at, some_right, c.loop-node.invariant.1, c.len.ensures.count))

pub overflow_sub-result : goal.overflow_sub-result
overflow_sub-result g c =
    let at = turn g.K.Ord.cmp c.in-Some.ensures.root c.loop-node.invariant.0 c.in-Equal.ensures in
    omega (arith, at.root.lengths, length-from-here g.met.K.Ord.total at, c.loop-node.invariant.1, c.len-in-Equal.ensures.count)

pub returns-in-Equal : goal.returns-in-Equal
returns-in-Equal g c =
    let at = turn g.K.Ord.cmp c.in-Some.ensures.root c.loop-node.invariant.0 c.in-Equal.ensures in
    omega (arith, at.root.lengths, length-from-here g.met.K.Ord.total at, c.loop-node.invariant.1, c.len-in-Equal.ensures.count)
