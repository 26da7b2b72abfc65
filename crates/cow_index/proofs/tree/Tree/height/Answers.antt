use Rattle.std.proofs.Common.{◌+◌, arith}
use Rattle.cow_index.proofs.Heights.{height_below}
use Rattle.cow_index.proofs.tree.Tree.height.Goals as goal

pub returns-in-Some-clause-low : goal.returns-in-Some-clause-low
returns-in-Some-clause-low g c =
    let high = height_below (c.args.self.now.1 + 1) _ 65 c.in-Some.ensures.level.dense (omega (arith, c.in-Some.ensures.root.fits)) in
    omega (arith, high)
