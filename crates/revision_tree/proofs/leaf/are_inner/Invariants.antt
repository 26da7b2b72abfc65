use Rattle.std.proofs.Common.{◌≡◌, true, take}
use Rattle.std.specs.Prelude.{All}
use Rattle.revision_tree.specs.declared.node.Node.{Node}
use Rattle.revision_tree.proofs.leaf.are_inner.Given as goal

abbrev pub invariant-loop-node : goal.invariant-loop-node
invariant-loop-node l = All (λ (n : Node). n.inner ≡ true) (take l.node-index l.nodes)
