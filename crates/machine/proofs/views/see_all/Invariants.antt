use Rattle.std.proofs.Common.{◌≡◌}
use Rattle.std.specs.Vec.Iter.{into_iter_items}
use Rattle.machine.specs.Views.{all_seeing}
use Rattle.machine.proofs.views.see_all.Given as goal

-- with the rest, all see their version
abbrev pub invariant-loop-one : goal.invariant-loop-one
invariant-loop-one l = all_seeing l.views.items (into_iter_items l.one-iterator) ≡ all_seeing l.initial.views.items l.fn.seen.items
