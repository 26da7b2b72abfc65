use Rattle.std.proofs.Common.{◌≡◌, []}
use Rattle.std.specs.List.{range_with_len}
use Rattle.history_lock.proofs.ends.all_ends.Given as goal

abbrev pub invariant-loop-number : goal.invariant-loop-number
invariant-loop-number g l = (l.ends.items ≡ range_with_len 0 l._number) × (l.consumer.taken ≡ []) × (l.consumer.made ≡ l._number)
