use Rattle.std.proofs.Common.{◌≡◌, length, slice_get}
use Rattle.shared_list.proofs.tree.Tree.get.Given as goal

abbrev pub invariant-loop-node : goal.invariant-loop-node
invariant-loop-node g l = (l.len ≡ length l.at) × (slice_get l.at l.place ≡ slice_get l.self l.initial.place)

abbrev pub decreases-loop-node : goal.decreases-loop-node
decreases-loop-node g l = length l.at
