-- One more known revision goes last, unless it was seen, and another one always does.
use Rattle.std.specs.Prelude.{◌≡◌, ◌+◌, ◌∷◌, ◌++◌, [], filter, take, if◌then◌else◌}
use Rattle.std.specs.BTreeSet.{contains}
use Rattle.std.proofs.Common.{sym, ap, subst, ◌∙◌}
use Rattle.std.proofs.lemmas.List.{take_more}
use Rattle.model.specs.Revision.{rev_cmp}
use Rattle.model.specs.Tree.{knows}
use Rattle.changes_feed.proofs.SeenLists.{IsSeen, IsSeen-push, filter-more, filter-same, once_where, once_where-counted, once_where-free}
use Rattle.changes_feed.proofs.opened.leaves_once.Goals as goal
use Rattle.changes_feed.proofs.opened.leaves_once.Goals.{then-knows+in_ok-add_once, else-knows+in_ok-push}

pub loop-rev-preserved : goal.loop-rev-preserved
loop-rev-preserved c =
    let p = knows c.args.tree.now in
    let xs = c.args.revs.now in
    let i = c.loop-rev.rev-index in
    let x = c.rev-item.result in
    let seen = c.loop-rev.seen in
    let more : take (i + 1) xs ≡ take i xs ++ x ∷ [] = take_more xs i x c.loop-rev-test.true ∙ ap (λ y. take i xs ++ y ∷ []) (sym c.rev-item.is) in
    elim c.if-knows.branch [
      | then-knows+in_ok-add_once w ↦ rw (w.once-is, w.seen-is) (record {
        once = w.in_ok-add_once.ensures.revs
            ∙ ap (λ ys. if contains rev_cmp seen x then ys else ys ++ x ∷ []) c.loop-rev.invariant.once
            ∙ sym (once_where-counted p seen (take i xs) x c.loop-rev.invariant.seen)
            ∙ ap (once_where p) (sym more);
        seen = subst (IsSeen w.add_once.new.seen) (sym (filter-more p (take i xs) x (sym c.knows.ensures ∙ w.if-knows.true)) ∙ ap (filter p) (sym more))
            (IsSeen-push seen w.add_once.new.seen (filter p (take i xs)) x w.in_ok-add_once.ensures.seen c.loop-rev.invariant.seen);
      })
      | else-knows+in_ok-push w ↦ rw (w.once-is, w.seen-is) (record {
        once = w.in_ok-push.ensures.items
            ∙ ap (λ ys. ys ++ x ∷ []) c.loop-rev.invariant.once
            ∙ sym (once_where-free p (take i xs) x (sym c.knows.ensures ∙ w.if-knows.false))
            ∙ ap (once_where p) (sym more);
        seen = subst (IsSeen seen) (sym (filter-same p (take i xs) x (sym c.knows.ensures ∙ w.if-knows.false)) ∙ ap (filter p) (sym more)) c.loop-rev.invariant.seen;
      })
    ]
