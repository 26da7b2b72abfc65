use Rattle.std.proofs.Common.{◌∙◌, ◌-◌, sym, arith}
use Rattle.tree_merge.proofs.Agreement.{agrees_last}
use Rattle.tree_merge.proofs.grafts.agrees_with.Goals as goal

pub returns : goal.returns
returns c = sym (agrees_last c.args.tree.now c.args.path.now (c.loop-place.place - 1) (omega (arith, c.loop-place-test.false))) ∙ c.loop-place.invariant
