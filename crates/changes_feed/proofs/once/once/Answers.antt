-- One more revision goes last, unless it was seen.
use Rattle.std.specs.Prelude.{◌≡◌, ◌+◌, ◌∷◌, ◌++◌, [], take, if◌then◌else◌}
use Rattle.std.specs.BTreeSet.{contains}
use Rattle.std.proofs.Common.{sym, ap, subst, ◌∙◌}
use Rattle.std.proofs.lemmas.List.{take_more}
use Rattle.model.specs.Lists.{each_once}
use Rattle.model.specs.Revision.{rev_cmp, same_rev}
use Rattle.changes_feed.proofs.SeenLists.{IsSeen, IsSeen-push, each_once-told}
use Rattle.changes_feed.proofs.once.once.Goals as goal

pub loop-rev-preserved : goal.loop-rev-preserved
loop-rev-preserved c =
    let xs = c.args.revs.now in
    let i = c.loop-rev.rev-index in
    let x = c.rev-item.result in
    let more : take (i + 1) xs ≡ take i xs ++ x ∷ [] = take_more xs i x c.loop-rev-test.true ∙ ap (λ y. take i xs ++ y ∷ []) (sym c.rev-item.is) in
    record {
      once = c.in_ok-add_once.ensures.revs
          ∙ ap (λ ys. if contains rev_cmp c.loop-rev.seen x then ys else ys ++ x ∷ []) c.loop-rev.invariant.once
          ∙ sym (each_once-told same_rev (take i xs) x (contains rev_cmp c.loop-rev.seen x) (c.loop-rev.invariant.seen.has x))
          ∙ ap (each_once same_rev) (sym more);
      seen = subst (IsSeen c.add_once.new.seen) (sym more) (IsSeen-push c.loop-rev.seen c.add_once.new.seen (take i xs) x c.in_ok-add_once.ensures.seen c.loop-rev.invariant.seen);
    }
