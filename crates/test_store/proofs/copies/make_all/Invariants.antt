use Rattle.model.specs.History.{Follows}
use Rattle.test_store.proofs.copies.make_all.Given as goal

abbrev pub invariant-loop-step : goal.invariant-loop-step
invariant-loop-step l = (Follows l.version l.first.seen) × (Follows l.version l.second.seen)
