-- So far the first of them.
use Rattle.std.proofs.Common.{◌≡◌, map}
use Rattle.std.specs.Map.Iter.{deref_pair}
use Rattle.revision_tree.proofs.leaf.all_of.Given as goal

abbrev pub invariant-loop-rank : goal.invariant-loop-rank
invariant-loop-rank l = l.revs.items ≡ map (λ e. e.0.rev) (map deref_pair l.yielded)
