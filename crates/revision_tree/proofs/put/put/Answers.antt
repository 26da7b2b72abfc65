use Rattle.std.proofs.Common.{◌<◌, ◌≤◌, [], length, get_or, arith}
use Rattle.revision_tree.specs.Nodes.{row_of}
use Rattle.revision_tree.specs.Rows.{lists_of, nodes_of}
use Rattle.revision_tree.proofs.Pieces.{parted_older, parted_last, sorted_in, if_ok, put_older, put_last}
use Rattle.revision_tree.proofs.put.put.Goals as goal

pub put_older-requires-clause-sorted : goal.put_older-requires-clause-sorted
put_older-requires-clause-sorted c =
    let rs = c.args.rows.now in
    let i = c.piece_for-place.result in
    let lt : i < length rs.older.items = omega (arith, c.if-place-len.true, c.len.ensures, rs.older.ok.0) in
    sorted_in (nodes_of rs) c.args.node.rev (get_or (lists_of rs.older.items) i []) (parted_older rs c.args.node.rev i c.piece_for-place.ensures lt) c.requires.sorted

pub returns-then-place-len-clause-put : goal.returns-then-place-len-clause-put
returns-then-place-len-clause-put c =
    let rs = c.args.rows.now in
    let i = c.piece_for-place.result in
    let lt : i < length rs.older.items = omega (arith, c.if-place-len.true, c.len.ensures, rs.older.ok.0) in
    if_ok c.put_older.result (put_older rs c.args.node.rev i (row_of c.args.node).1 c.put_older.new.older.items c.piece_for-place.ensures lt) c.put_older.ensures.put

pub put_among-requires : goal.put_among-requires
put_among-requires c =
    let rs = c.args.rows.now in
    let i = c.piece_for-place.result in
    let le : length rs.older.items ≤ i = omega (arith, c.if-place-len.false, c.len.ensures, rs.older.ok.0) in
    sorted_in (nodes_of rs) c.args.node.rev rs.last.items (parted_last rs c.args.node.rev i c.piece_for-place.ensures le) c.requires.sorted

pub returns-clause-put : goal.returns-clause-put
returns-clause-put c =
    let rs = c.args.rows.now in
    let i = c.piece_for-place.result in
    let le : length rs.older.items ≤ i = omega (arith, c.if-place-len.false, c.len.ensures, rs.older.ok.0) in
    if_ok c.settle.result (λ e. put_last rs c.args.node.rev i (row_of c.args.node).1 c.put_among.new.nodes.items _ c.piece_for-place.ensures le c.in_ok-put_among.ensures e) c.settle.ensures.nodes
