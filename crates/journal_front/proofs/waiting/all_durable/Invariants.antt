use Rattle.std.proofs.Common.{◌≡◌, ◌++◌, map, length}
use Rattle.std.specs.Vec.Iter.{into_iter_items, into_iter_len}
use Rattle.journal_front.proofs.waiting.all_durable.Given as goal

abbrev pub invariant-loop-session : goal.invariant-loop-session
invariant-loop-session g l =
    (l.durable.items ++ map (λ s. (s, (l.fn.awaits, l.fn.known))) (into_iter_items l.session-iterator) ≡ map (λ s. (s, (l.fn.awaits, l.fn.known))) (into_iter_items l.initial.session-iterator))
    × (into_iter_len l.session-iterator ≡ length (into_iter_items l.session-iterator))
