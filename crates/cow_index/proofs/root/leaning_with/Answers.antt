use Rattle.std.proofs.Common.{List, ℕ, length, ap, arith, ◌∙◌}
use Rattle.std.proofs.lemmas.Grind.{common_steps}
use Rattle.std.specs.Arc.{arc_value}
use Rattle.std.specs.FinMap.Entries.{put}
use Rattle.cow_index.specs.Tree.{pair_of}
use Rattle.cow_index.proofs.Sides.{length_put_le}
use Rattle.cow_index.proofs.Turns.{turn, left_sorted, right_sorted, put-left, put-right, put-here}
use Rattle.cow_index.proofs.root.leaning_with.Goals as goal

pub into_with-requires-clause-sorted : goal.into_with-requires-clause-sorted
into_with-requires-clause-sorted g c =
    let at = turn g.K.Ord.cmp c.requires.root c.requires.sorted (c.in-Less.ensures ∙ ap (λ n. g.K.Ord.cmp c.deref-new.result.now.key (pair_of n.entry).0) c.deref.ensures) in
    rw c.in_ok-left.ensures.left (left_sorted at)

pub root-requires-clause-fits : goal.root-requires-clause-fits
root-requires-clause-fits g c =
    let at = turn g.K.Ord.cmp c.requires.root c.requires.sorted (c.in-Less.ensures ∙ ap (λ n. g.K.Ord.cmp c.deref-new.result.now.key (pair_of n.entry).0) c.deref.ensures) in
    let longer = length_put_le g.met.K.Ord.total (pair_of c.args.entry).0 (pair_of c.args.entry).1 (arc_value c.args.root).left.0 (left_sorted at) in
    omega (arith, c.requires.root.lengths, c.requires.fits, ap length (c.in_ok-left-in-Less.ensures.entries ∙ ap (λ (t : List _ × ℕ). put g.K.Ord.cmp (pair_of c.args.entry).0 (pair_of c.args.entry).1 t.0) c.in_ok-left.ensures.left), ap (λ (t : List _ × ℕ). length t.0) (c.in_ok-right.ensures.right ∙ c.in_ok-left.ensures.right), longer)

pub returns-in-Less-clause-entries : goal.returns-in-Less-clause-entries
returns-in-Less-clause-entries g c =
    let at = turn g.K.Ord.cmp c.requires.root c.requires.sorted (c.in-Less.ensures ∙ ap (λ n. g.K.Ord.cmp c.deref-new.result.now.key (pair_of n.entry).0) c.deref.ensures) in
    let put_is = put-left g.met.K.Ord.total (pair_of c.args.entry).1 at in
    grind (arith, common_steps)

pub into_with-requires-in-Greater-clause-sorted : goal.into_with-requires-in-Greater-clause-sorted
into_with-requires-in-Greater-clause-sorted g c =
    let at = turn g.K.Ord.cmp c.requires.root c.requires.sorted (c.in-Greater.ensures ∙ ap (λ n. g.K.Ord.cmp c.deref-new.result.now.key (pair_of n.entry).0) c.deref.ensures) in
    rw (c.in_ok-right.ensures.right ∙ c.in_ok-left.ensures.right) (right_sorted at)

pub grown-requires-clause-fits : goal.grown-requires-clause-fits
grown-requires-clause-fits g c =
    let at = turn g.K.Ord.cmp c.requires.root c.requires.sorted (c.in-Greater.ensures ∙ ap (λ n. g.K.Ord.cmp c.deref-new.result.now.key (pair_of n.entry).0) c.deref.ensures) in
    let longer = length_put_le g.met.K.Ord.total (pair_of c.args.entry).0 (pair_of c.args.entry).1 (arc_value c.args.root).right.0 (right_sorted at) in
    omega (arith, c.requires.root.lengths, c.requires.fits, ap length (c.in_ok-right-in-Greater.ensures.entries ∙ ap (λ (t : List _ × ℕ). put g.K.Ord.cmp (pair_of c.args.entry).0 (pair_of c.args.entry).1 t.0) (c.in_ok-right.ensures.right ∙ c.in_ok-left.ensures.right)), ap (λ (t : List _ × ℕ). length t.0) c.in_ok-left.ensures.left, longer)

pub returns-in-Greater-clause-entries : goal.returns-in-Greater-clause-entries
returns-in-Greater-clause-entries g c =
    let at = turn g.K.Ord.cmp c.requires.root c.requires.sorted (c.in-Greater.ensures ∙ ap (λ n. g.K.Ord.cmp c.deref-new.result.now.key (pair_of n.entry).0) c.deref.ensures) in
    let put_is = put-right g.met.K.Ord.total (pair_of c.args.entry).1 at in
    grind (arith, common_steps)

pub returns-clause-entries : goal.returns-clause-entries
returns-clause-entries g c =
    let at = turn g.K.Ord.cmp c.requires.root c.requires.sorted (c.in-Equal.ensures ∙ ap (λ n. g.K.Ord.cmp c.deref-new.result.now.key (pair_of n.entry).0) c.deref.ensures) in
    let put_is = put-here g.met.K.Ord.total (pair_of c.args.entry).1 g.met.K.IndexKey.exact at in
    grind (arith, common_steps)
