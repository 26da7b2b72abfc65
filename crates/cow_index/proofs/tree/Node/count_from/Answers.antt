use Rattle.std.proofs.Common.{arith}
use Rattle.std.specs.Ordering.{is_le}
use Rattle.cow_index.proofs.Filters.{length_filter_le}
use Rattle.cow_index.proofs.Turns.{turn, left_sorted, right_sorted, length-from-left, length-from-right, length-from-here}
use Rattle.cow_index.proofs.tree.Node.count_from.Goals as goal

pub count_from-requires : goal.count_from-requires
count_from-requires g c = left_sorted (turn g.K.Ord.cmp c.requires.root c.requires.sorted c.in-Less.ensures)

pub count_from-requires-in-Greater : goal.count_from-requires-in-Greater
count_from-requires-in-Greater g c = right_sorted (turn g.K.Ord.cmp c.requires.root c.requires.sorted c.in-Greater.ensures)

pub overflow_add-result : goal.overflow_add-result
overflow_add-result g c =
    let some_left = length_filter_le (λ e. is_le (g.K.Ord.cmp c.args.key.now e.0)) c.args.self.now.left.0 in
    omega (arith, c.requires.root.lengths, c.requires.root.fits, some_left, c.count_from.ensures, c.len.ensures.count)

pub overflow_add-result-in-Less : goal.overflow_add-result-in-Less
overflow_add-result-in-Less g c =
    let some_left = length_filter_le (λ e. is_le (g.K.Ord.cmp c.args.key.now e.0)) c.args.self.now.left.0 in
    omega (arith, c.requires.root.lengths, c.requires.root.fits, some_left, c.count_from.ensures, c.len.ensures.count)

pub returns-in-Less : goal.returns-in-Less
returns-in-Less g c =
    let at = turn g.K.Ord.cmp c.requires.root c.requires.sorted c.in-Less.ensures in
    omega (arith, length-from-left g.met.K.Ord.total at, c.count_from.ensures, c.len.ensures.count)

pub returns-in-Greater : goal.returns-in-Greater
returns-in-Greater g c =
    let at = turn g.K.Ord.cmp c.requires.root c.requires.sorted c.in-Greater.ensures in
    omega (arith, length-from-right g.met.K.Ord.total at, c.count_from-in-Greater.ensures)

pub returns-in-Equal : goal.returns-in-Equal
returns-in-Equal g c =
    let at = turn g.K.Ord.cmp c.requires.root c.requires.sorted c.in-Equal.ensures in
    omega (arith, length-from-here g.met.K.Ord.total at, c.len-in-Equal.ensures.count)
