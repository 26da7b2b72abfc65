use Rattle.std.proofs.Common.{◌+◌, ◌-◌, drop, take, length, arith}
use Rattle.revision_tree.specs.Nodes.{tree_of}
use Rattle.revision_tree.specs.Rows.{nodes_of}
use Rattle.revision_tree.proofs.Grafts.{linked_start, linked_sorted, linked_next, rest_from}
use Rattle.revision_tree.proofs.growth.link.Goals as goal

pub loop-place-init : goal.loop-place-init
loop-place-init c = record { linked = linked_start c.args.older.now (nodes_of c.args.rows.now) c.requires.ground; filled = c.requires.filled }

pub add_parent-requires-clause-sorted : goal.add_parent-requires-clause-sorted
add_parent-requires-clause-sorted c = linked_sorted (drop c.loop-place.place c.args.older.now) (tree_of (nodes_of c.args.rows.now)) (nodes_of c.loop-place.rows) c.loop-place.invariant.linked

pub loop-place-preserved : goal.loop-place-preserved
loop-place-preserved c =
    let older = c.args.older.now in
    let i = c.loop-place.place in
    let os = take (length older - (i - 1 + 1)) (drop (i - 1 + 1) older) in
    record {
      linked = linked_next (tree_of (nodes_of c.args.rows.now)) older os i c.index-older-place.result (nodes_of c.loop-place.rows) (nodes_of c.add_parent.new.rows) c.requires.path (omega arith) (omega arith) c.index-older-place.is
          (rest_from older i (omega arith)) c.loop-place.invariant.linked c.in_ok-add_parent.ensures.put;
      filled = c.in_ok-add_parent.ensures.filled;
    }
