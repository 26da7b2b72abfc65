use Rattle.std.proofs.Common.{List, ℕ, length, ap, arith, ◌∙◌}
use Rattle.std.proofs.lemmas.Grind.{common_steps}
use Rattle.std.specs.Arc.{arc_value}
use Rattle.std.specs.FinMap.Entries.{put}
use Rattle.cow_index.specs.Tree.{pair_of}
use Rattle.cow_index.proofs.Sides.{length_put_le}
use Rattle.cow_index.proofs.Turns.{turn, left_sorted, right_sorted, put-left, put-right, put-here}
use Rattle.cow_index.proofs.tree.Tree.+into_with.Goals as goal

pub into_with-requires : goal.into_with-requires
into_with-requires g t c κs within =
    let at = turn g.K.Ord.cmp c.in-Ok.ensures.root c.requires.sorted (c.in-Less.ensures ∙ ap (λ n. g.K.Ord.cmp c.deref-new.result.now.key (pair_of n.entry).0) c.deref.ensures) in
    rw c.in_ok-side-in-Less.ensures.left (omega (arith, at.root.lengths), (within.0, (within.1, (left_sorted at, (omega (arith, at.root.lengths), omega (arith, at.root.heights))))))

pub into_with-requires-in-Greater : goal.into_with-requires-in-Greater
into_with-requires-in-Greater g t c κs within =
    let at = turn g.K.Ord.cmp c.in-Ok.ensures.root c.requires.sorted (c.in-Greater.ensures ∙ ap (λ n. g.K.Ord.cmp c.deref-new.result.now.key (pair_of n.entry).0) c.deref.ensures) in
    rw c.in_ok-side-in-Greater.ensures.right (omega (arith, at.root.lengths), (within.0, (within.1, (right_sorted at, (omega (arith, at.root.lengths), omega (arith, at.root.heights))))))

pub balance_left-requires-clause-fits : goal.balance_left-requires-clause-fits
balance_left-requires-clause-fits g t c =
    let at = turn g.K.Ord.cmp c.in-Ok.ensures.root c.requires.sorted (c.in-Less.ensures ∙ ap (λ n. g.K.Ord.cmp c.deref-new.result.now.key (pair_of n.entry).0) c.deref.ensures) in
    let longer = length_put_le g.met.K.Ord.total (pair_of c.args.entry).0 (pair_of c.args.entry).1 (arc_value c.in-Ok.root).left.0 (left_sorted at) in
    omega (arith, at.root.lengths, c.requires.fits, ap length (c.in_ok-left-in-Less.ensures.entries ∙ ap (λ (t : List _ × ℕ). put g.K.Ord.cmp (pair_of c.args.entry).0 (pair_of c.args.entry).1 t.0) c.in_ok-side-in-Less.ensures.left), ap (λ (t : List _ × ℕ). length t.0) c.in_ok-side-in-Less.ensures.right, longer)

pub balance_right-requires-clause-fits : goal.balance_right-requires-clause-fits
balance_right-requires-clause-fits g t c =
    let at = turn g.K.Ord.cmp c.in-Ok.ensures.root c.requires.sorted (c.in-Greater.ensures ∙ ap (λ n. g.K.Ord.cmp c.deref-new.result.now.key (pair_of n.entry).0) c.deref.ensures) in
    let longer = length_put_le g.met.K.Ord.total (pair_of c.args.entry).0 (pair_of c.args.entry).1 (arc_value c.in-Ok.root).right.0 (right_sorted at) in
    omega (arith, at.root.lengths, c.requires.fits, ap length (c.in_ok-right-in-Greater.ensures.entries ∙ ap (λ (t : List _ × ℕ). put g.K.Ord.cmp (pair_of c.args.entry).0 (pair_of c.args.entry).1 t.0) c.in_ok-side-in-Greater.ensures.right), ap (λ (t : List _ × ℕ). length t.0) c.in_ok-side-in-Greater.ensures.left, longer)

pub returns-in_ok-left-in-Less-clause-entries : goal.returns-in_ok-left-in-Less-clause-entries
returns-in_ok-left-in-Less-clause-entries g t c =
    let at = turn g.K.Ord.cmp c.in-Ok.ensures.root c.requires.sorted (c.in-Less.ensures ∙ ap (λ n. g.K.Ord.cmp c.deref-new.result.now.key (pair_of n.entry).0) c.deref.ensures) in
    let put_is = put-left g.met.K.Ord.total (pair_of c.args.entry).1 at in
    grind (arith, common_steps)

pub returns-in_ok-right-in-Greater-clause-entries : goal.returns-in_ok-right-in-Greater-clause-entries
returns-in_ok-right-in-Greater-clause-entries g t c =
    let at = turn g.K.Ord.cmp c.in-Ok.ensures.root c.requires.sorted (c.in-Greater.ensures ∙ ap (λ n. g.K.Ord.cmp c.deref-new.result.now.key (pair_of n.entry).0) c.deref.ensures) in
    let put_is = put-right g.met.K.Ord.total (pair_of c.args.entry).1 at in
    grind (arith, common_steps)

pub returns-in_ok-share-in-Equal-2-clause-entries : goal.returns-in_ok-share-in-Equal-2-clause-entries
returns-in_ok-share-in-Equal-2-clause-entries g t c =
    let at = turn g.K.Ord.cmp c.in-Ok.ensures.root c.requires.sorted (c.in-Equal.ensures ∙ ap (λ n. g.K.Ord.cmp c.deref-new.result.now.key (pair_of n.entry).0) c.deref.ensures) in
    let put_is = put-here g.met.K.Ord.total (pair_of c.args.entry).1 g.met.K.IndexKey.exact at in
    grind (arith, common_steps)
