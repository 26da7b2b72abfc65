use Rattle.model.specs.History.{Extends}
use Rattle.bench_compaction.proofs.copy.slice_all.Given as goal

abbrev pub invariant-loop-slice : goal.invariant-loop-slice
invariant-loop-slice l = Extends l.version l.copy.seen
