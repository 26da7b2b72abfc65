use Rattle.std.proofs.Common.{map}
use Rattle.revision_tree.specs.Ranks.{AreOuter}
use Rattle.revision_tree.proofs.noted.leaves_of.Given as goal

abbrev pub invariant-loop-node : goal.invariant-loop-node
invariant-loop-node l = AreOuter (map (λ x. x.now) l.yielded) l.leaves.entries
