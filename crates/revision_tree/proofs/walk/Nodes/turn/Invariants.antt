use Rattle.std.proofs.Common.{◌≡◌, length}
use Rattle.revision_tree.specs.Walk.{left_of}
use Rattle.revision_tree.proofs.walk.Nodes.turn.Given as goal

abbrev pub invariant-loop-self : goal.invariant-loop-self
invariant-loop-self l = left_of l.self ≡ left_of l.fn.self

abbrev pub decreases-loop-self : goal.decreases-loop-self
decreases-loop-self l = length l.self.older.now
