-- One more revision adds the leaves that are shown for it, or itself.
use Rattle.std.specs.Prelude.{◌++◌}
use Rattle.std.proofs.Common.{sym, ◌∙◌}
use Rattle.changes_feed.proofs.Claimed.{next_once}
use Rattle.changes_feed.proofs.opened.latest_once.Goals as goal

pub loop-place-preserved : goal.loop-place-preserved
loop-place-preserved c =
    let shown = c.deref-in-loop-place.ensures.value ∙ c.in_ok-shown_at.ensures in
    let before = c.loop-place.invariant in
    c.in_ok-extend_from_slice.ensures.items ∙ (λ i. before i ++ shown i)
    ∙ sym (next_once c.args.tree.now c.oldest-recalled.ensures.tree.forest c.args.asked.now c.loop-place.place c.index-asked-place.result c.loop-place-test.true c.index-asked-place.is c.deref.result.now (c.deref.ensures.value ∙ c.in_ok-leaves.ensures))
