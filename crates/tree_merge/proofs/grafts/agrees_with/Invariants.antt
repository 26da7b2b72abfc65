use Rattle.std.proofs.Common.{◌≡◌, ◌-◌, drop}
use Rattle.model.specs.TreeChange.{agrees}
use Rattle.tree_merge.proofs.grafts.agrees_with.Given as goal

abbrev pub invariant-loop-place : goal.invariant-loop-place
invariant-loop-place l = agrees l.tree (drop (l.place - 1) l.path) ≡ agrees l.tree l.path
