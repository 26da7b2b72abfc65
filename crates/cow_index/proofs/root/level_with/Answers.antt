use Rattle.std.proofs.Common.{arith, refl}
use Rattle.std.proofs.lemmas.Grind.{common_steps}
use Rattle.cow_index.specs.Tree.{pair_of}
use Rattle.cow_index.proofs.Sides.{put_behind}
use Rattle.cow_index.proofs.root.level_with.Goals as goal

pub returns-then-is_below-clause-entries : goal.returns-then-is_below-clause-entries
returns-then-is_below-clause-entries g c =
    let put_is = put_behind g.K.Ord.cmp c.deref-new.result.now.key (pair_of c.args.entry).1 c.args.tree.0 (c.if-is_below.ensures refl) in
    grind (arith, common_steps)
