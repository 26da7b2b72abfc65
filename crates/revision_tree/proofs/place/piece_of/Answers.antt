use Rattle.std.proofs.Common.{◌≡◌, ◌∙◌, ◌<◌, [], length, sym, ap, subst, arith, get_or}
use Rattle.std.specs.FinMap.Entries.{find}
use Rattle.std.specs.Prelude.{Contains}
use Rattle.model.specs.Revision.{rev_cmp}
use Rattle.revision_tree.specs.Nodes.{IsSorted, rows_of}
use Rattle.revision_tree.specs.Rows.{lists_of, nodes_of}
use Rattle.revision_tree.proofs.Pieces.{parted_older, parted_last, found_in, sorted_in, listed_in, list_read}
use Rattle.revision_tree.proofs.place.piece_of.Goals as goal

pub returns-then-place-len-clause-sorted : goal.returns-then-place-len-clause-sorted
returns-then-place-len-clause-sorted c =
    let rs = c.args.rows.now in
    let i = c.piece_for-place.result in
    let lt : i < length rs.older.items = omega (arith, c.if-place-len.true, c.len.ensures, rs.older.ok.0) in
    let is : get_or (lists_of rs.older.items) i [] ≡ c.deref-then-place-len.result.now = list_read rs.older.items i c.index.result.now lt c.index.ensures ∙ sym (c.deref-then-place-len.ensures.value ∙ ap (λ v. v.items) c.deref.ensures) in
    let p = parted_older rs c.args.rev i c.piece_for-place.ensures lt in
    subst IsSorted is (sorted_in (nodes_of rs) c.args.rev (get_or (lists_of rs.older.items) i []) p c.requires.sorted)

pub returns-then-place-len-clause-found : goal.returns-then-place-len-clause-found
returns-then-place-len-clause-found c =
    let rs = c.args.rows.now in
    let i = c.piece_for-place.result in
    let lt : i < length rs.older.items = omega (arith, c.if-place-len.true, c.len.ensures, rs.older.ok.0) in
    let is : get_or (lists_of rs.older.items) i [] ≡ c.deref-then-place-len.result.now = list_read rs.older.items i c.index.result.now lt c.index.ensures ∙ sym (c.deref-then-place-len.ensures.value ∙ ap (λ v. v.items) c.deref.ensures) in
    let p = parted_older rs c.args.rev i c.piece_for-place.ensures lt in
    found_in (nodes_of rs) c.args.rev (get_or (lists_of rs.older.items) i []) p ∙ ap (λ ns. find rev_cmp c.args.rev (rows_of ns)) is

pub returns-then-place-len-clause-listed : goal.returns-then-place-len-clause-listed
returns-then-place-len-clause-listed c = λ n h.
    let rs = c.args.rows.now in
    let i = c.piece_for-place.result in
    let lt : i < length rs.older.items = omega (arith, c.if-place-len.true, c.len.ensures, rs.older.ok.0) in
    let is : get_or (lists_of rs.older.items) i [] ≡ c.deref-then-place-len.result.now = list_read rs.older.items i c.index.result.now lt c.index.ensures ∙ sym (c.deref-then-place-len.ensures.value ∙ ap (λ v. v.items) c.deref.ensures) in
    let p = parted_older rs c.args.rev i c.piece_for-place.ensures lt in
    listed_in (nodes_of rs) c.args.rev (get_or (lists_of rs.older.items) i []) p n (subst (λ ns. Contains ns n) (sym is) h)

pub returns-clause-sorted : goal.returns-clause-sorted
returns-clause-sorted c =
    let rs = c.args.rows.now in
    let p = parted_last rs c.args.rev c.piece_for-place.result c.piece_for-place.ensures (omega (arith, c.if-place-len.false, c.len.ensures, rs.older.ok.0)) in
    subst IsSorted (sym c.deref-2.ensures.value) (sorted_in (nodes_of rs) c.args.rev rs.last.items p c.requires.sorted)

pub returns-clause-found : goal.returns-clause-found
returns-clause-found c =
    let rs = c.args.rows.now in
    let p = parted_last rs c.args.rev c.piece_for-place.result c.piece_for-place.ensures (omega (arith, c.if-place-len.false, c.len.ensures, rs.older.ok.0)) in
    found_in (nodes_of rs) c.args.rev rs.last.items p ∙ ap (λ ns. find rev_cmp c.args.rev (rows_of ns)) (sym c.deref-2.ensures.value)

pub returns-clause-listed : goal.returns-clause-listed
returns-clause-listed c = λ n h.
    let rs = c.args.rows.now in
    let p = parted_last rs c.args.rev c.piece_for-place.result c.piece_for-place.ensures (omega (arith, c.if-place-len.false, c.len.ensures, rs.older.ok.0)) in
    listed_in (nodes_of rs) c.args.rev rs.last.items p n (subst (λ ns. Contains ns n) c.deref-2.ensures.value h)
