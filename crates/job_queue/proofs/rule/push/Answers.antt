use Rattle.std.proofs.Common.{◌≡◌, ◌+◌, ◌<◌, length, sym, subst}
use Rattle.crossbeam_queue.specs.Fifo.{Pushes, Learns}
use Rattle.crossbeam_queue.specs.Passes.{ruled_capacity}
use Rattle.job_queue.specs.declared.rule.Hand.{Hand}
use Rattle.job_queue.specs.Turns.{Turns}
use Rattle.job_queue.proofs.Moves.{pushes, learns}
use Rattle.job_queue.proofs.rule.push.Goals as goal

pub push_as-requires-clause-rule : goal.push_as-requires-clause-rule
push_as-requires-clause-rule g c =
    subst (λ (v : Hand). Pushes Turns (ruled_capacity c.args.jobs.now) c.args.pass.now.id v c.args.job (λ w. w ≡ record v { pushed = v.pushed + 1 }) × Learns Turns c.args.pass.now.id v (λ items. length items < v.bound))
    (sym c.requires.turn) (pushes _ _ _ _ _, learns _ _ _ _)
