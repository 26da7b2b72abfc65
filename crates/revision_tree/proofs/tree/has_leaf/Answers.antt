use Rattle.std.proofs.Common.{sym, ◌∙◌}
use Rattle.model.proofs.AncestorLaws.{Contains-among}
use Rattle.revision_tree.proofs.tree.has_leaf.Goals as goal

pub returns-then-is_leaf : goal.returns-then-is_leaf
returns-then-is_leaf c = λ e. (c.rev-item.result, sym c.is_leaf.ensures ∙ c.if-is_leaf.true, (Contains-among c.args.revs.now c.rev-item.result).1 (c.loop-rev.rev-index, c.loop-rev-test.true, sym c.rev-item.is))
