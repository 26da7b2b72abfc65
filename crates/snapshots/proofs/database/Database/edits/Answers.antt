use Rattle.std.specs.Prelude.{◌+◌, ◌++◌}
use Rattle.std.proofs.Common.{arith, ap, ◌∙◌, drop}
use Rattle.model.specs.Database.{Database, edit_replies}
use Rattle.snapshots.proofs.Bulks.{few-after_edit, after_edits-next, edit_replies-next}
use Rattle.snapshots.proofs.database.Database.edits.Goals as goal

pub loop-index-preserved : goal.loop-index-preserved
loop-index-preserved c =
    let es = c.args.edits.now in
    let i = c.loop-index.index in
    let e = c.index-edits-index.result in
    let d = c.loop-index.self in
    record {
      after = after_edits-next es i e d c.edit-in-loop-index.new.self c.loop-index-test.true c.index-edits-index.is c.in_ok-edit-2.ensures.after ∙ c.loop-index.invariant.after;
      replies = ap (λ rs. rs ++ edit_replies c.edit-in-loop-index.new.self (drop (i + 1) es)) c.in_ok-push.ensures.items
          ∙ edit_replies-next es i e d c.edit-in-loop-index.new.self c.loop-index-test.true c.index-edits-index.is c.in_ok-edit-2.ensures.after c.loop-index.replies.items c.in_ok-edit-2.field-0 c.in_ok-edit-2.ensures.reply
          ∙ c.loop-index.invariant.replies;
      room = omega (arith, few-after_edit d e, ap (λ (x : Database). x.update_seq) c.in_ok-edit-2.ensures.after, c.loop-index.invariant.room, c.loop-index-test.true);
    }
