-- Each part is that of the document.
use Rattle.std.specs.Prelude.{◌≡◌, true, false, [], Some, None, option_map, if◌then◌else◌}
use Rattle.std.specs.Bool.{then_some}
use Rattle.std.proofs.Common.{◌∙◌}
use Rattle.model.specs.Documents.{document}
use Rattle.changes_feed.specs.Shown.{listed_leaves, listed_path, others_with, statuses_of}
use Rattle.changes_feed.proofs.ShownParts.{revisions-listed, statuses-listed, conflicts-listed, deleted_conflicts-listed}
use Rattle.changes_feed.proofs.document.document.Goals as goal

pub returns : goal.returns
unfolding document
returns c =
    let o = c.args.options.now in
    let t = c.args.tree.now in
    let r = c.args.rev in
    let path = c.in_ok-path.path in
    let shown : c.deref.result.now ≡ listed_path o t r = c.deref.ensures.value ∙ c.in_ok-path.ensures in
    let leaves : c.deref-2.result.now ≡ listed_leaves o t = c.deref-2.ensures.value ∙ c.in_ok-leaves.ensures in
    let leaves2 : c.deref-3.result.now ≡ listed_leaves o t = c.deref-3.ensures.value ∙ c.in_ok-leaves.ensures in
    let revisions = (λ i. option_map (λ v. v.items) (c.then_some.ensures i))
    ∙ (λ i. option_map (λ v. v.items) (then_some (c.options.view_is i).revs path))
    ∙ revisions-listed o t (λ v. v.items) path r c.in_ok-path.ensures in
    let states = c.in_ok-revs_info.ensures
    ∙ (λ i. if (c.options.view_is i).revs_info then Some (statuses_of t (shown i)) else None)
    ∙ statuses-listed o t r in
    let live = c.in_ok-conflicts.ensures
    ∙ (λ i. if (c.options.view_is i).conflicts then others_with false t (leaves i) else [])
    ∙ conflicts-listed o t in
    let deleted = c.in_ok-conflicts-2.ensures
    ∙ (λ i. if (c.options.view_is i).deleted_conflicts then others_with true t (leaves2 i) else [])
    ∙ deleted_conflicts-listed o t in
    λ i. record {
      id = c.in_ok-share.ensures.same i;
      rev = r;
      deleted = c.is_deleted.ensures i;
      body = c.in_ok-try_clone.ensures i;
      revisions = revisions i;
      revs_info = states i;
      conflicts = live i;
      deleted_conflicts = deleted i;
    }
