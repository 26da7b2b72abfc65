use Rattle.std.proofs.Common.{◌∙◌, ◌++◌, ap, sym, append_assoc, arith, drop}
use Rattle.revision_tree.specs.Rows.{items_of, joined, lists_of}
use Rattle.revision_tree.proofs.Ranked.{revs_half}
use Rattle.revision_tree.proofs.Walked.{revs_back}
use Rattle.revision_tree.proofs.leaf.add_marked.Goals as goal

pub loop-place-preserved : goal.loop-place-preserved
loop-place-preserved c =
    let rs = c.args.rows.now in
    let d = c.args.deleted in
    let i = c.loop-place.place in
    let p = c.index.result.now in
    let here = c.deref-in-loop-place-2.ensures.value ∙ ap (λ v. v.items) c.deref-in-loop-place.ensures in
    c.in_ok-add_among-2.ensures ∙ (λ k. c.loop-place.invariant k ++ revs_half d (here k))
    ∙ append_assoc c.args.leaves.now.items (revs_half d (joined (drop i (lists_of rs.older.items)) ++ rs.last.items)) (revs_half d (items_of p))
    ∙ ap (λ xs. c.args.leaves.now.items ++ xs) (sym (revs_back d rs.older.items rs.last.items i p c.loop-place-test.true (omega (arith, c.loop-place.auto.place, c.len-place.ensures, rs.older.ok.0)) c.index.ensures))
