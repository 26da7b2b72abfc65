use Rattle.std.proofs.Common.{◌≡◌, map, take}
use Rattle.tree_merge.specs.Reach.{first_mark}
use Rattle.tree_merge.proofs.reach.first_marks.Given as goal

abbrev pub invariant-loop-node : goal.invariant-loop-node
invariant-loop-node l = l.marks.items ≡ map (λ n. first_mark l.limit l.fn.named l.tree n.rev) (take l.node-index l.nodes)
