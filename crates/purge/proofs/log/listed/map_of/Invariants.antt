-- So far the purges that were put.
use Rattle.std.proofs.Common.{◌≡◌}
use Rattle.purge.proofs.log.listed.map_of.Given as goal

abbrev pub invariant-loop-seq : goal.invariant-loop-seq
invariant-loop-seq l = l.map.entries ≡ l.yielded
