use Rattle.std.proofs.Common.{◌≡◌, ◌++◌, ◌+◌, ◌≤◌, map, length, vec_capacity}
use Rattle.std.specs.Vec.Iter.{into_iter_items, into_iter_len}
use Rattle.journal_front.specs.Server.{AllJournaled}
use Rattle.journal_front.proofs.waiting.all_inner.Given as goal

-- If all that are left know of no more than is known here, then all do.
abbrev pub invariant-loop-session : goal.invariant-loop-session
invariant-loop-session g l =
    (l.sessions.items ++ map (λ d. d.0) (into_iter_items l.session-iterator) ≡ map (λ d. d.0) (into_iter_items l.initial.session-iterator))
    × (into_iter_len l.session-iterator ≡ length (into_iter_items l.session-iterator))
    × (length l.sessions.items + length (into_iter_items l.session-iterator) + 1 ≤ vec_capacity l.sessions)
    × (AllJournaled l.fn.known (into_iter_items l.session-iterator) → AllJournaled l.fn.known (into_iter_items l.initial.session-iterator))
