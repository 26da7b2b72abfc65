use Rattle.std.proofs.Common.{take}
use Rattle.tree_merge.specs.Links.{IsLinked}
use Rattle.tree_merge.proofs.unchanged.has_links.Given as goal

abbrev pub invariant-loop-place : goal.invariant-loop-place
invariant-loop-place l = IsLinked l.tree (take l.place l.path)
