use Rattle.std.proofs.Common.{length, ap, arith}
use Rattle.std.proofs.lemmas.Grind.{common_steps}
use Rattle.cow_index.specs.Tree.{pair_of}
use Rattle.cow_index.proofs.Sides.{length_put_le}
use Rattle.cow_index.proofs.Turns.{turn, left_sorted, right_sorted, put-left, put-right, put-here}
use Rattle.cow_index.proofs.tree.Tree.+insert.Goals as goal

pub insert-requires : goal.insert-requires
insert-requires g t c κs within =
    let at = turn g.K.Ord.cmp c.in-Some.ensures.root c.requires.sorted c.in-Less.ensures in
    (omega (arith, at.root.lengths), (within.0, (within.1, (left_sorted at, (omega (arith, at.root.lengths), omega (arith, at.root.heights))))))

pub insert-requires-in-Greater : goal.insert-requires-in-Greater
insert-requires-in-Greater g t c κs within =
    let at = turn g.K.Ord.cmp c.in-Some.ensures.root c.requires.sorted c.in-Greater.ensures in
    (omega (arith, at.root.lengths), (within.0, (within.1, (right_sorted at, (omega (arith, at.root.lengths), omega (arith, at.root.heights))))))

pub balance-requires-clause-fits : goal.balance-requires-clause-fits
balance-requires-clause-fits g t c =
    let at = turn g.K.Ord.cmp c.in-Some.ensures.root c.requires.sorted c.in-Less.ensures in
    let longer = length_put_le g.met.K.Ord.total (pair_of c.args.entry).0 (pair_of c.args.entry).1 c.in-Some.node.now.left.0 (left_sorted at) in
    rw c.in_ok-share-in-Less.ensures (omega (arith, at.root.lengths, c.requires.fits, ap length c.in_ok-left-in-Less.ensures.entries, longer))

pub balance-requires-in-Greater-clause-fits : goal.balance-requires-in-Greater-clause-fits
balance-requires-in-Greater-clause-fits g t c =
    let at = turn g.K.Ord.cmp c.in-Some.ensures.root c.requires.sorted c.in-Greater.ensures in
    let longer = length_put_le g.met.K.Ord.total (pair_of c.args.entry).0 (pair_of c.args.entry).1 c.in-Some.node.now.right.0 (right_sorted at) in
    rw c.in_ok-share-in-Greater.ensures (omega (arith, at.root.lengths, c.requires.fits, ap length c.in_ok-right-in-Greater.ensures.entries, longer))

pub returns-in_ok-share-in-Less-clause-entries : goal.returns-in_ok-share-in-Less-clause-entries
returns-in_ok-share-in-Less-clause-entries g t c =
    let at = turn g.K.Ord.cmp c.in-Some.ensures.root c.requires.sorted c.in-Less.ensures in
    let put_is = put-left g.met.K.Ord.total (pair_of c.args.entry).1 at in
    grind (arith, common_steps)

pub returns-in_ok-try_clone-in-Greater-clause-entries : goal.returns-in_ok-try_clone-in-Greater-clause-entries
returns-in_ok-try_clone-in-Greater-clause-entries g t c =
    let at = turn g.K.Ord.cmp c.in-Some.ensures.root c.requires.sorted c.in-Greater.ensures in
    let put_is = put-right g.met.K.Ord.total (pair_of c.args.entry).1 at in
    grind (arith, common_steps)

pub returns-in_ok-share-in-Equal-2-clause-entries : goal.returns-in_ok-share-in-Equal-2-clause-entries
returns-in_ok-share-in-Equal-2-clause-entries g t c =
    let at = turn g.K.Ord.cmp c.in-Some.ensures.root c.requires.sorted c.in-Equal.ensures in
    let put_is = put-here g.met.K.Ord.total (pair_of c.args.entry).1 g.met.K.IndexKey.exact at in
    grind (arith, common_steps)
