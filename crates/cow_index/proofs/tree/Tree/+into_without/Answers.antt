use Rattle.std.proofs.Common.{List, ℕ, not, length, ap, arith, ◌∙◌}
use Rattle.std.proofs.lemmas.Grind.{common_steps}
use Rattle.std.specs.Ordering.{is_eq, eq_by_cmp}
use Rattle.std.specs.Arc.{arc_value}
use Rattle.cow_index.specs.Entries.{without}
use Rattle.cow_index.specs.Tree.{pair_of}
use Rattle.cow_index.proofs.Filters.{length_filter_le}
use Rattle.cow_index.proofs.Turns.{turn, left_sorted, right_sorted, kept-left, kept-right, kept-here}
use Rattle.cow_index.proofs.tree.Tree.+into_without.Goals as goal

pub into_without-requires : goal.into_without-requires
into_without-requires g t c κs within =
    let at = turn g.K.Ord.cmp c.in-Ok.ensures.root c.requires.sorted (c.in-Less.ensures ∙ ap (λ n. g.K.Ord.cmp c.args.key.now (pair_of n.entry).0) c.deref.ensures) in
    rw c.in_ok-side-in-Less.ensures.left (omega (arith, at.root.lengths), (within.0, (within.1, (left_sorted at, omega (arith, at.root.heights)))))

pub into_without-requires-in-Greater : goal.into_without-requires-in-Greater
into_without-requires-in-Greater g t c κs within =
    let at = turn g.K.Ord.cmp c.in-Ok.ensures.root c.requires.sorted (c.in-Greater.ensures ∙ ap (λ n. g.K.Ord.cmp c.args.key.now (pair_of n.entry).0) c.deref.ensures) in
    rw c.in_ok-side-in-Greater.ensures.right (omega (arith, at.root.lengths), (within.0, (within.1, (right_sorted at, omega (arith, at.root.heights)))))

pub balance_left-requires-clause-fits : goal.balance_left-requires-clause-fits
balance_left-requires-clause-fits g t c =
    let shorter = length_filter_le (λ e. not (eq_by_cmp g.K.Ord.cmp c.args.key.now e.0)) (arc_value c.in-Ok.root).left.0 in
    omega (arith, c.in-Ok.ensures.root.lengths, c.in-Ok.ensures.root.fits, ap length (c.in_ok-left-in-Less.ensures.entries ∙ ap (λ (t : List _ × ℕ). without g.K.Ord.cmp c.args.key.now t.0) c.in_ok-side-in-Less.ensures.left), ap (λ (t : List _ × ℕ). length t.0) c.in_ok-side-in-Less.ensures.right, shorter)

pub balance_right-requires-clause-fits : goal.balance_right-requires-clause-fits
balance_right-requires-clause-fits g t c =
    let shorter = length_filter_le (λ e. not (eq_by_cmp g.K.Ord.cmp c.args.key.now e.0)) (arc_value c.in-Ok.root).right.0 in
    omega (arith, c.in-Ok.ensures.root.lengths, c.in-Ok.ensures.root.fits, ap length (c.in_ok-right-in-Greater.ensures.entries ∙ ap (λ (t : List _ × ℕ). without g.K.Ord.cmp c.args.key.now t.0) c.in_ok-side-in-Greater.ensures.right), ap (λ (t : List _ × ℕ). length t.0) c.in_ok-side-in-Greater.ensures.left, shorter)

pub returns-in_ok-left-in-Less-clause-entries : goal.returns-in_ok-left-in-Less-clause-entries
returns-in_ok-left-in-Less-clause-entries g t c =
    let at = turn g.K.Ord.cmp c.in-Ok.ensures.root c.requires.sorted (c.in-Less.ensures ∙ ap (λ n. g.K.Ord.cmp c.args.key.now (pair_of n.entry).0) c.deref.ensures) in
    let without_is = kept-left g.met.K.Ord.total (λ o. not (is_eq o)) at in
    grind (arith, common_steps)

pub returns-in_ok-right-in-Greater-clause-entries : goal.returns-in_ok-right-in-Greater-clause-entries
returns-in_ok-right-in-Greater-clause-entries g t c =
    let at = turn g.K.Ord.cmp c.in-Ok.ensures.root c.requires.sorted (c.in-Greater.ensures ∙ ap (λ n. g.K.Ord.cmp c.args.key.now (pair_of n.entry).0) c.deref.ensures) in
    let without_is = kept-right g.met.K.Ord.total (λ o. not (is_eq o)) at in
    grind (arith, common_steps)

pub returns-in-Equal-clause-entries : goal.returns-in-Equal-clause-entries
returns-in-Equal-clause-entries g t c =
    let at = turn g.K.Ord.cmp c.in-Ok.ensures.root c.requires.sorted (c.in-Equal.ensures ∙ ap (λ n. g.K.Ord.cmp c.args.key.now (pair_of n.entry).0) c.deref.ensures) in
    let without_is = kept-here g.met.K.Ord.total (λ o. not (is_eq o)) at in
    grind (arith, common_steps)
