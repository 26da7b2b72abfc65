use Rattle.std.proofs.Common.{◌+◌, length, arith}
use Rattle.std.proofs.lemmas.Grind.{common_steps}
use Rattle.cow_index.proofs.Heights.{dense_level}
use Rattle.cow_index.proofs.root.Root.height.Goals as goal

pub returns-in-Level-clause-dense : goal.returns-in-Level-clause-dense
returns-in-Level-clause-dense g c =
    let dense = dense_level c.in-Level.tree.1 (length c.in-Level.tree.0 + 1) c.height.ensures.dense in
    grind (arith, common_steps)
