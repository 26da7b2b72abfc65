use Rattle.std.proofs.Common.{◌≡◌, ◌++◌, map, length}
use Rattle.std.specs.Vec.Iter.{into_iter_items, into_iter_len}
use Rattle.sessions.specs.Known.{fresh}
use Rattle.history_lock.proofs.ends.all_sessions.Given as goal

abbrev pub invariant-loop-end : goal.invariant-loop-end
invariant-loop-end g l = (l.sessions.items ++ map fresh (into_iter_items l.end-iterator) ≡ map fresh (into_iter_items l.initial.end-iterator)) × (into_iter_len l.end-iterator ≡ length (into_iter_items l.end-iterator))
