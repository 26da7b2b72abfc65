use Rattle.std.proofs.Common.{List, ℕ, not, length, ap, arith, ◌∙◌}
use Rattle.std.proofs.lemmas.Grind.{common_steps}
use Rattle.std.specs.Ordering.{is_eq, eq_by_cmp}
use Rattle.std.specs.Arc.{arc_value}
use Rattle.cow_index.specs.Entries.{without}
use Rattle.cow_index.specs.Tree.{pair_of}
use Rattle.cow_index.proofs.Filters.{length_filter_le}
use Rattle.cow_index.proofs.Turns.{turn, left_sorted, right_sorted, kept-left, kept-right, kept-here}
use Rattle.cow_index.proofs.root.leaning_without.Goals as goal

pub into_without-requires-clause-sorted : goal.into_without-requires-clause-sorted
into_without-requires-clause-sorted g c =
    let at = turn g.K.Ord.cmp c.requires.root c.requires.sorted (c.in-Less.ensures ∙ ap (λ n. g.K.Ord.cmp c.args.key.now (pair_of n.entry).0) c.deref.ensures) in
    rw c.in_ok-left.ensures.left (left_sorted at)

pub root-requires-clause-fits : goal.root-requires-clause-fits
root-requires-clause-fits g c =
    let shorter = length_filter_le (λ e. not (eq_by_cmp g.K.Ord.cmp c.args.key.now e.0)) (arc_value c.args.root).left.0 in
    omega (arith, c.requires.root.lengths, c.requires.root.fits, ap length (c.in_ok-left-in-Less.ensures.entries ∙ ap (λ (t : List _ × ℕ). without g.K.Ord.cmp c.args.key.now t.0) c.in_ok-left.ensures.left), ap (λ (t : List _ × ℕ). length t.0) (c.in_ok-right.ensures.right ∙ c.in_ok-left.ensures.right), shorter)

pub returns-in-Less-clause-entries : goal.returns-in-Less-clause-entries
returns-in-Less-clause-entries g c =
    let at = turn g.K.Ord.cmp c.requires.root c.requires.sorted (c.in-Less.ensures ∙ ap (λ n. g.K.Ord.cmp c.args.key.now (pair_of n.entry).0) c.deref.ensures) in
    let without_is = kept-left g.met.K.Ord.total (λ o. not (is_eq o)) at in
    grind (arith, common_steps)

pub into_without-requires-in-Greater-clause-sorted : goal.into_without-requires-in-Greater-clause-sorted
into_without-requires-in-Greater-clause-sorted g c =
    let at = turn g.K.Ord.cmp c.requires.root c.requires.sorted (c.in-Greater.ensures ∙ ap (λ n. g.K.Ord.cmp c.args.key.now (pair_of n.entry).0) c.deref.ensures) in
    rw (c.in_ok-right.ensures.right ∙ c.in_ok-left.ensures.right) (right_sorted at)

pub root-requires-in-Greater-clause-fits : goal.root-requires-in-Greater-clause-fits
root-requires-in-Greater-clause-fits g c =
    let shorter = length_filter_le (λ e. not (eq_by_cmp g.K.Ord.cmp c.args.key.now e.0)) (arc_value c.args.root).right.0 in
    omega (arith, c.requires.root.lengths, c.requires.root.fits, ap length (c.in_ok-right-in-Greater.ensures.entries ∙ ap (λ (t : List _ × ℕ). without g.K.Ord.cmp c.args.key.now t.0) (c.in_ok-right.ensures.right ∙ c.in_ok-left.ensures.right)), ap (λ (t : List _ × ℕ). length t.0) c.in_ok-left.ensures.left, shorter)

pub returns-in-Greater-clause-entries : goal.returns-in-Greater-clause-entries
returns-in-Greater-clause-entries g c =
    let at = turn g.K.Ord.cmp c.requires.root c.requires.sorted (c.in-Greater.ensures ∙ ap (λ n. g.K.Ord.cmp c.args.key.now (pair_of n.entry).0) c.deref.ensures) in
    let without_is = kept-right g.met.K.Ord.total (λ o. not (is_eq o)) at in
    grind (arith, common_steps)

pub returns-in_default-clause-entries : goal.returns-in_default-clause-entries
returns-in_default-clause-entries g c =
    let at = turn g.K.Ord.cmp c.requires.root c.requires.sorted (c.in-Equal.ensures ∙ ap (λ n. g.K.Ord.cmp c.args.key.now (pair_of n.entry).0) c.deref.ensures) in
    let without_is = kept-here g.met.K.Ord.total (λ o. not (is_eq o)) at in
    grind (arith, common_steps)

pub returns-clause-entries : goal.returns-clause-entries
returns-clause-entries g c =
    let at = turn g.K.Ord.cmp c.requires.root c.requires.sorted (c.in-Equal.ensures ∙ ap (λ n. g.K.Ord.cmp c.args.key.now (pair_of n.entry).0) c.deref.ensures) in
    let without_is = kept-here g.met.K.Ord.total (λ o. not (is_eq o)) at in
    grind (arith, common_steps)
