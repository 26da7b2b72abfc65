use Rattle.std.proofs.Common.{not, length, ap, arith}
use Rattle.std.proofs.lemmas.Grind.{common_steps}
use Rattle.std.specs.Ordering.{is_eq, eq_by_cmp}
use Rattle.cow_index.proofs.Filters.{length_filter_le}
use Rattle.cow_index.proofs.Turns.{turn, left_sorted, right_sorted, kept-left, kept-right, kept-here}
use Rattle.cow_index.proofs.tree.Tree.+remove.Goals as goal

pub remove-requires : goal.remove-requires
remove-requires g t c κs within =
    let at = turn g.K.Ord.cmp c.in-Some.ensures.root c.requires.sorted c.in-Less.ensures in
    (omega (arith, at.root.lengths), (within.0, (within.1, (left_sorted at, omega (arith, at.root.heights)))))

pub remove-requires-in-Greater : goal.remove-requires-in-Greater
remove-requires-in-Greater g t c κs within =
    let at = turn g.K.Ord.cmp c.in-Some.ensures.root c.requires.sorted c.in-Greater.ensures in
    (omega (arith, at.root.lengths), (within.0, (within.1, (right_sorted at, omega (arith, at.root.heights)))))

pub balance-requires-clause-fits : goal.balance-requires-clause-fits
balance-requires-clause-fits g t c =
    let shorter = length_filter_le (λ e. not (eq_by_cmp g.K.Ord.cmp c.args.key.now e.0)) c.in-Some.node.now.left.0 in
    rw c.in_ok-share-in-Less.ensures (omega (arith, c.in-Some.ensures.root.lengths, c.in-Some.ensures.root.fits, ap length c.in_ok-left-in-Less.ensures.entries, shorter))

pub balance-requires-in-Greater-clause-fits : goal.balance-requires-in-Greater-clause-fits
balance-requires-in-Greater-clause-fits g t c =
    let shorter = length_filter_le (λ e. not (eq_by_cmp g.K.Ord.cmp c.args.key.now e.0)) c.in-Some.node.now.right.0 in
    rw c.in_ok-share-in-Greater.ensures (omega (arith, c.in-Some.ensures.root.lengths, c.in-Some.ensures.root.fits, ap length c.in_ok-right-in-Greater.ensures.entries, shorter))

pub returns-in_ok-share-in-Less-clause-entries : goal.returns-in_ok-share-in-Less-clause-entries
returns-in_ok-share-in-Less-clause-entries g t c =
    let at = turn g.K.Ord.cmp c.in-Some.ensures.root c.requires.sorted c.in-Less.ensures in
    let without_is = kept-left g.met.K.Ord.total (λ o. not (is_eq o)) at in
    grind (arith, common_steps)

pub returns-in_ok-try_clone-in-Greater-clause-entries : goal.returns-in_ok-try_clone-in-Greater-clause-entries
returns-in_ok-try_clone-in-Greater-clause-entries g t c =
    let at = turn g.K.Ord.cmp c.in-Some.ensures.root c.requires.sorted c.in-Greater.ensures in
    let without_is = kept-right g.met.K.Ord.total (λ o. not (is_eq o)) at in
    grind (arith, common_steps)

pub returns-in-Equal-clause-entries : goal.returns-in-Equal-clause-entries
returns-in-Equal-clause-entries g t c =
    let at = turn g.K.Ord.cmp c.in-Some.ensures.root c.requires.sorted c.in-Equal.ensures in
    let without_is = kept-here g.met.K.Ord.total (λ o. not (is_eq o)) at in
    grind (arith, common_steps)
