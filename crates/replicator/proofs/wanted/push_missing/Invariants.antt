use Rattle.std.proofs.Common.{◌≡◌, ◌++◌, map, take}
use Rattle.replicator.proofs.wanted.push_missing.Given as goal

abbrev pub invariant-loop-rev : goal.invariant-loop-rev
invariant-loop-rev l = l.wanted.items ≡ l.fn.wanted.items ++ map (λ rev. (l.id, rev)) (take l.rev-index l.difference.missing)
