use Rattle.std.proofs.Common.{◌+◌, ◌<◌, ◌^◌, length, refl, sym, subst, arith, length-append}
use Rattle.cow_index.specs.Height.{DifferByAtMost}
use Rattle.cow_index.proofs.Heights.{dense_node}
use Rattle.cow_index.proofs.nodes.NodeMaker.put_right.Goals as goal

pub invariant_of-result : goal.invariant_of-result
invariant_of-result g c =
    let level : DifferByAtMost 1 c.in-Some.node.now.left.1 c.args.right.1 = subst (λ n. DifferByAtMost 1 n.left.1 c.args.right.1) (sym c.in-Some.ensures.value) c.requires.level in
    let fits = subst (λ n. length n.left.0 + length c.args.right.0 + 1 < 2 ^ 64) (sym c.in-Some.ensures.value) c.requires.fits in
    let dense = dense_node _ _ _ _ level c.height.ensures.dense c.height-2.ensures.dense in (
      record {
        entries = refl;
        lengths = grind (arith, length-append);
        len = grind (arith, length-append);
        fits = grind (arith, length-append, fits);
        height = refl;
        heights = grind arith;
      },
      record {
        sides = level;
        dense = grind (arith, length-append, dense);
      },
    )
