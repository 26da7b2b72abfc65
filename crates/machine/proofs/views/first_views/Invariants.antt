use Rattle.std.proofs.Common.{◌≡◌, replicate}
use Rattle.std.specs.Prelude.{true}
use Rattle.machine.proofs.views.first_views.Given as goal

abbrev pub invariant-loop-made : goal.invariant-loop-made
invariant-loop-made l = l.views.items ≡ replicate l._made (record { version = l.version; free = true })
