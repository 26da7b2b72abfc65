-- What is left decides.
use Rattle.std.proofs.Common.{drop}
use Rattle.purge.proofs.Numbers.{IsLeft}
use Rattle.purge.proofs.log.listed.are_numbered.Given as goal

abbrev pub invariant-loop-seq : goal.invariant-loop-seq
invariant-loop-seq l = IsLeft l.purge_seq l.last l.purges (drop l.seq-index l.purges)
