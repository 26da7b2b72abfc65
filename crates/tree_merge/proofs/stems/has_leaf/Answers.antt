use Rattle.std.proofs.Common.{◌≡◌, ◌∙◌, sym, subst, false}
use Rattle.std.proofs.lemmas.List.{take_all}
use Rattle.model.specs.Tree.{among}
use Rattle.tree_merge.proofs.Cuts.{not_among_more}
use Rattle.tree_merge.proofs.stems.has_leaf.Goals as goal

pub loop-rev-preserved : goal.loop-rev-preserved
loop-rev-preserved c = λ r leaf.
    not_among_more c.args.tree.now c.args.named.now c.loop-rev.rev-index c.rev-item.result r c.loop-rev-test.true c.rev-item.is (sym c.is_leaf.ensures ∙ c.if-is_leaf.false) leaf (c.loop-rev.invariant r leaf)

pub returns-clause-none : goal.returns-clause-none
returns-clause-none c = λ e r leaf. subst (λ rs. among rs r ≡ false) (take_all c.loop-rev.rev-index c.args.named.now c.loop-rev-test.false) (c.loop-rev.invariant r leaf)
