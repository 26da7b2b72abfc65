use Rattle.std.proofs.Common.{◌≡◌, map}
use Rattle.replicator.proofs.Gathered.{pair_of}
use Rattle.replicator.proofs.asking.named.Given as goal

abbrev pub invariant-loop-id : goal.invariant-loop-id
invariant-loop-id l = l.documents.items ≡ map pair_of l.yielded
