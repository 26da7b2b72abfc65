use Rattle.std.proofs.Common.{List, ℕ, sym, subst}
use Rattle.std.specs.declared.cmp.Ordering.TheVariants.{Greater}
use Rattle.cow_index.specs.Entries.{EachCompares}
use Rattle.cow_index.proofs.Turns.{turn, right_sorted, all_above}
use Rattle.cow_index.proofs.tree.Tree.is_below.Goals as goal

pub loop-node-init : goal.loop-node-init
loop-node-init g c = (c.requires, λ above. above)

pub loop-node-preserved : goal.loop-node-preserved
loop-node-preserved g c =
    let at = turn g.K.Ord.cmp c.in-Some.ensures.root c.loop-node.invariant.0 c.in-Greater.ensures in
    (right_sorted at, λ above. c.loop-node.invariant.1 (all_above g.met.K.Ord.total at above))

pub returns : goal.returns
returns g c = λ below. c.loop-node.invariant.1 (subst (λ (t : List _ × ℕ). EachCompares g.K.Ord.cmp c.args.key.now Greater t.0) (sym c.in_default.ensures.empty) tt)
