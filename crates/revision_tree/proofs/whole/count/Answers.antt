use Rattle.std.proofs.Common.{ap, length, arith}
use Rattle.revision_tree.proofs.Ends.{count_more}
use Rattle.revision_tree.proofs.whole.count.Goals as goal

pub loop-piece-preserved : goal.loop-piece-preserved
loop-piece-preserved c =
    count_more c.args.rows.now.older.items c.deref-piece-items.result.now c.loop-piece.piece-index c.piece-item.result c.loop-piece.count c.saturating_add-count.result (length c.args.rows.now.last.items) c.len.result _
    c.deref-piece-items.ensures.value c.loop-piece-test.true c.piece-item.is (omega (arith, c.len.ensures, ap (λ v. v.len) c.deref.ensures, c.piece-item.result.value.ok.0)) c.loop-piece.invariant c.saturating_add-count.ensures
