use Rattle.std.proofs.Common.{◌∷◌, ◌↔◌, drop}
use Rattle.revision_tree.specs.Nodes.{IsSorted}
use Rattle.revision_tree.proofs.decide.ascend.Given as goal

-- what is left decides
abbrev pub invariant-loop-node : goal.invariant-loop-node
invariant-loop-node l = IsSorted l.nodes ↔ IsSorted (l.last ∷ drop l.node-index l.rest)
