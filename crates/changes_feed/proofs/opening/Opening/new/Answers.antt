-- Its lists of conflicts are those of each of its documents.
use Rattle.std.specs.Prelude.{◌≡◌, true, false, [], if◌then◌else◌}
use Rattle.std.proofs.Common.{sym, ◌∙◌}
use Rattle.changes_feed.specs.Opening.{conflicts_of, deleted_conflicts_of}
use Rattle.changes_feed.specs.Shown.{listed_leaves, others_with}
use Rattle.changes_feed.proofs.ShownParts.{conflicts-listed, deleted_conflicts-listed}
use Rattle.changes_feed.proofs.opening.Opening.new.Goals as goal

pub invariant_of-result : goal.invariant_of-result
invariant_of-result c =
    let o = c.args.options.now in
    let t = c.args.tree.now in
    let leaves : c.deref.result.now ≡ listed_leaves o t = c.deref.ensures.value ∙ c.in_ok-leaves.ensures in
    let leaves2 : c.deref-2.result.now ≡ listed_leaves o t = c.deref-2.ensures.value ∙ c.in_ok-leaves.ensures in (
      c.in_ok-conflicts.ensures
          ∙ (λ i. if (c.options.view_is i).conflicts then others_with false t (leaves i) else [])
          ∙ conflicts-listed o t
          ∙ sym (λ i. conflicts_of (c.options.view_is i) (c.in_ok-share-2.ensures i)),
      c.in_ok-conflicts-2.ensures
          ∙ (λ i. if (c.options.view_is i).deleted_conflicts then others_with true t (leaves2 i) else [])
          ∙ deleted_conflicts-listed o t
          ∙ sym (λ i. deleted_conflicts_of (c.options.view_is i) (c.in_ok-share-2.ensures i)),
    )
