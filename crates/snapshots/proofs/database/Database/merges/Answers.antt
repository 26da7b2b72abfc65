use Rattle.std.specs.Prelude.{◌+◌, ◌++◌}
use Rattle.std.proofs.Common.{arith, ap, ◌∙◌, drop}
use Rattle.model.specs.Database.{Database, merge_replies}
use Rattle.snapshots.proofs.Bulks.{few-after_merge, after_merges-next, merge_replies-next}
use Rattle.snapshots.proofs.database.Database.merges.Goals as goal

pub loop-index-preserved : goal.loop-index-preserved
loop-index-preserved c =
    let es = c.args.merges.now in
    let i = c.loop-index.index in
    let e = c.index-merges-index.result in
    let d = c.loop-index.self in
    record {
      after = after_merges-next es i e d c.merge-in-loop-index.new.self c.loop-index-test.true c.index-merges-index.is c.in_ok-merge-2.ensures.after ∙ c.loop-index.invariant.after;
      replies = ap (λ rs. rs ++ merge_replies c.merge-in-loop-index.new.self (drop (i + 1) es)) c.in_ok-push.ensures.items
          ∙ merge_replies-next es i e d c.merge-in-loop-index.new.self c.loop-index-test.true c.index-merges-index.is c.in_ok-merge-2.ensures.after c.loop-index.replies.items c.in_ok-merge-2.field-0 c.in_ok-merge-2.ensures.reply
          ∙ c.loop-index.invariant.replies;
      room = omega (arith, few-after_merge d e, ap (λ (x : Database). x.update_seq) c.in_ok-merge-2.ensures.after, c.loop-index.invariant.room, c.loop-index-test.true);
    }
