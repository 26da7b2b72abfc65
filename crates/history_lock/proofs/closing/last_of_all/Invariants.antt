use Rattle.std.proofs.Common.{◌≡◌, ◌++◌, ◌+◌, ◌≤◌, length, vec_capacity}
use Rattle.std.specs.List.{All}
use Rattle.std.specs.Vec.Iter.{into_iter_items, into_iter_len}
use mathlib.Core.List.{IsPrefix}
use Rattle.version_log.specs.Histories.{Grows}
use Rattle.sessions.specs.Known.{Known}
use Rattle.history_lock.proofs.closing.last_of_all.Given as goal

abbrev pub invariant-loop-session : goal.invariant-loop-session
invariant-loop-session g l = IsPrefix l.fn.current l.last × Grows g.J.Naming.base l.last × All (λ (k : Known). IsPrefix k.published l.last) l.ended.items
    × (l.ended.items ++ into_iter_items l.session-iterator ≡ into_iter_items l.initial.session-iterator) × (into_iter_len l.session-iterator ≡ length (into_iter_items l.session-iterator))
    × (length l.ended.items + length (into_iter_items l.session-iterator) ≤ vec_capacity l.ended)
