use Rattle.std.proofs.Common.{◌≡◌, ◌∙◌, [], length, get_or, ap, sym, arith}
use Rattle.std.proofs.Math.ListN.{length-map}
use Rattle.std.specs.FinMap.Entries.{put}
use Rattle.model.specs.Revision.{rev_cmp}
use Rattle.revision_tree.specs.Nodes.{row_of, rows_of}
use Rattle.revision_tree.specs.Rows.{lists_of}
use Rattle.revision_tree.proofs.Pieces.{list_read, if_ok, put_rows}
use Rattle.revision_tree.proofs.Rowed.{sorted_alike, put_some}
use Rattle.revision_tree.proofs.put.put_older.Goals as goal

pub put_among-requires : goal.put_among-requires
put_among-requires c =
    let is : c.deref-2.result.now ≡ get_or (lists_of c.args.older.now.items) c.args.place [] = c.deref-2.ensures.value ∙ ap (λ v. v.items) c.deref.ensures ∙ sym (list_read c.args.older.now.items c.args.place c.index.result.now c.requires.place c.index.ensures) in
    sorted_alike c.in_ok-nodes.nodes.items (get_or (lists_of c.args.older.now.items) c.args.place []) (c.in_ok-nodes.ensures ∙ ap rows_of is) c.requires.sorted

pub replace-requires-clause-some : goal.replace-requires-clause-some
replace-requires-clause-some c =
    let same = ap length c.in_ok-put_among.ensures in
    let some = put_some c.args.node.rev (row_of c.args.node).1 (rows_of c.in_ok-nodes.nodes.items) in
    omega (arith, same, some, length-map c.put_among.new.nodes.items row_of)

pub returns-clause-put : goal.returns-clause-put
returns-clause-put c =
    let nss = lists_of c.args.older.now.items in
    let is : c.deref-2.result.now ≡ get_or nss c.args.place [] = c.deref-2.ensures.value ∙ ap (λ v. v.items) c.deref.ensures ∙ sym (list_read c.args.older.now.items c.args.place c.index.result.now c.requires.place c.index.ensures) in
    let v = (row_of c.args.node).1 in
    if_ok c.replace.result (λ e. put_rows c.args.place nss c.put_among.new.nodes.items _ (put rev_cmp c.args.node.rev v (rows_of (get_or nss c.args.place []))) (c.in_ok-put_among.ensures ∙ ap (put rev_cmp c.args.node.rev v) (c.in_ok-nodes.ensures ∙ ap rows_of is)) e) c.replace.ensures.nodes
