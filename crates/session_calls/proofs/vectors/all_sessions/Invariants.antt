use Rattle.std.proofs.Common.{◌≡◌, ◌++◌, ◌+◌, ◌≤◌, length, vec_capacity}
use Rattle.std.specs.Vec.Iter.{into_iter_items, into_iter_len}
use Rattle.session_calls.proofs.vectors.all_sessions.Given as goal

abbrev pub invariant-loop-session : goal.invariant-loop-session
invariant-loop-session g l =
    (l.sessions.items ++ into_iter_items l.session-iterator ≡ into_iter_items l.initial.session-iterator)
    × (into_iter_len l.session-iterator ≡ length (into_iter_items l.session-iterator))
    × (length l.sessions.items + length (into_iter_items l.session-iterator) ≤ vec_capacity l.sessions)
