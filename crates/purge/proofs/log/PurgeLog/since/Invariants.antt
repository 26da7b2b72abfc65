use Rattle.std.proofs.Common.{◌≡◌, map}
use Rattle.std.specs.Map.Iter.{deref_pair}
use Rattle.purge.proofs.log.PurgeLog.since.Given as goal

abbrev pub invariant-loop-seq : goal.invariant-loop-seq
invariant-loop-seq l = l.ids.items ≡ map (λ e. e.1.0) (map deref_pair l.yielded)
