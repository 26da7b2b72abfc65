use Rattle.std.proofs.Common.{◌≡◌}
use Rattle.cow_index.proofs.look_up.descend_each.Given as goal

-- no step changes what they find
abbrev pub invariant-loop-level : goal.invariant-loop-level
invariant-loop-level g l = l.look_ups ≡ l.initial.look_ups
