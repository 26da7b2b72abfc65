use Rattle.std.proofs.Common.{◌+◌, sym, subst}
use Rattle.crossbeam_queue.specs.Fifo.{Forks}
use Rattle.job_queue.specs.declared.rule.Hand.{Hand}
use Rattle.job_queue.specs.Turns.{Turns, updater, pusher}
use Rattle.job_queue.proofs.Moves.{seats}
use Rattle.job_queue.proofs.rule.seat.Goals as goal

pub another-requires-clause-rule : goal.another-requires-clause-rule
another-requires-clause-rule c =
    subst (λ (v : Hand). Forks Turns c.args.first.now.id v (updater v.taken (v.made + 1) v.bound) (pusher v.made 0 0 v.bound)) (sym c.requires.first.0) (seats _ _ _ _ c.requires.first.1)
