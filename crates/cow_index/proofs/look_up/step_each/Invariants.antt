use Rattle.std.proofs.Common.{◌≡◌}
use Rattle.cow_index.proofs.look_up.step_each.Given as goal

-- each finds what it found
abbrev pub invariant-loop-look_up : goal.invariant-loop-look_up
invariant-loop-look_up g l = l.look_ups ≡ l.initial.look_ups
