use Rattle.std.proofs.Common.{◌++◌, ◌∷◌, sym, ap, ◌∙◌, append_assoc, arith}
use Rattle.std.specs.Ordering.{is_le}
use Rattle.cow_index.specs.Entries.{entries_from}
use Rattle.cow_index.specs.Path.{held, waiting}
use Rattle.cow_index.specs.Tree.{pair_of}
use Rattle.cow_index.proofs.Turns.{turn, left_sorted, right_sorted, kept-left, kept-right, kept-here}
use Rattle.cow_index.proofs.walk.Path.descend_from.Goals as goal

pub loop-node-preserved-in-Less : goal.loop-node-preserved-in-Less
loop-node-preserved-in-Less g c =
    let at = turn g.K.Ord.cmp c.in-Some.ensures.root c.loop-node.invariant.0 c.in-Less.ensures in
    let n = c.in-Some.node.now in
    let left = entries_from g.K.Ord.cmp c.args.key.now n.left.0 in (
      left_sorted at,
      c.push.ensures.fit,
      omega (arith, at.root.heights, c.push.ensures.depth, c.loop-node.invariant.2),
      ap (λ w. left ++ w) c.push.ensures.waiting ∙ sym (append_assoc left (pair_of n.entry ∷ n.right.0) (waiting (held c.loop-node.self)))
          ∙ ap (λ es. es ++ waiting (held c.loop-node.self)) (sym (kept-left g.met.K.Ord.total is_le at)) ∙ c.loop-node.invariant.3,
    )

pub loop-node-preserved : goal.loop-node-preserved
loop-node-preserved g c =
    let at = turn g.K.Ord.cmp c.in-Some.ensures.root c.loop-node.invariant.0 c.in-Greater.ensures in (
      right_sorted at,
      c.loop-node.invariant.1,
      omega (arith, at.root.heights, c.loop-node.invariant.2),
      ap (λ es. es ++ waiting (held c.loop-node.self)) (sym (kept-right g.met.K.Ord.total is_le at)) ∙ c.loop-node.invariant.3,
    )

pub returns-in-Equal-clause-waiting : goal.returns-in-Equal-clause-waiting
returns-in-Equal-clause-waiting g c =
    let at = turn g.K.Ord.cmp c.in-Some.ensures.root c.loop-node.invariant.0 c.in-Equal.ensures in
    c.push-in-Equal.ensures.waiting ∙ ap (λ es. es ++ waiting (held c.loop-node.self)) (sym (kept-here g.met.K.Ord.total is_le at)) ∙ c.loop-node.invariant.3
