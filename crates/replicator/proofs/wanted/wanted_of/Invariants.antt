use Rattle.std.proofs.Common.{◌≡◌, take}
use Rattle.model.specs.Map.{entries}
use Rattle.replicator.specs.Wanted.{wanted_in}
use Rattle.replicator.proofs.wanted.wanted_of.Given as goal

abbrev pub invariant-loop-id : goal.invariant-loop-id
invariant-loop-id l = l.wanted.items ≡ wanted_in (take l.id-index (entries l.differences))
