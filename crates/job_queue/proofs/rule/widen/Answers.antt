use Rattle.std.proofs.Common.{◌+◌, sym, subst, []}
use Rattle.crossbeam_queue.specs.Fifo.{Forks}
use Rattle.job_queue.specs.declared.rule.Hand.{Hand}
use Rattle.job_queue.specs.Turns.{Turns, updater, nobody}
use Rattle.job_queue.proofs.Moves.{widens}
use Rattle.job_queue.proofs.rule.widen.Goals as goal

pub another-nobody-requires-clause-rule : goal.another-nobody-requires-clause-rule
another-nobody-requires-clause-rule c =
    subst (λ (v : Hand). Forks Turns c.args.first.now.id v (updater [] 0 (v.bound + 1)) nobody) (sym c.requires.first) (widens _ _)
