use Rattle.std.proofs.Common.{sym, subst}
use Rattle.crossbeam_queue.specs.Fifo.{Forks}
use Rattle.job_queue.specs.declared.rule.Hand.{Hand}
use Rattle.job_queue.specs.Turns.{Turns, note}
use Rattle.job_queue.proofs.Moves.{tells}
use Rattle.job_queue.proofs.rule.word.Goals as goal

pub another-requires-clause-rule : goal.another-requires-clause-rule
another-requires-clause-rule c =
    subst (λ (v : Hand). Forks Turns c.args.from.now.id v v (note v.taken)) (sym c.requires.takes) (tells _ _ _ _)
