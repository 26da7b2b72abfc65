use Rattle.std.proofs.Common.{◌∙◌, ap}
use Rattle.revision_tree.proofs.Ends.{rows_more}
use Rattle.revision_tree.proofs.whole.all.Goals as goal

pub loop-piece-preserved : goal.loop-piece-preserved
loop-piece-preserved c =
    rows_more c.args.rows.now.older.items c.deref-piece-items.result.now c.loop-piece.piece-index c.piece-item.result c.loop-piece.nodes.items c.add_all.new.nodes.items c.deref-in-loop-piece.result.now
    c.deref-piece-items.ensures.value c.loop-piece-test.true c.piece-item.is (c.deref-in-loop-piece.ensures.value ∙ ap (λ v. v.items) c.deref.ensures) c.loop-piece.invariant c.in_ok-add_all.ensures
