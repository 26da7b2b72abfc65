use Rattle.std.proofs.Common.{◌≡◌, ◌<◌, ◌++◌, ◌∷◌, [], sym, subst}
use Rattle.crossbeam_queue.specs.Fifo.{Pops}
use Rattle.job_queue.specs.declared.rule.Hand.{Hand}
use Rattle.job_queue.specs.Turns.{Turns}
use Rattle.job_queue.proofs.Moves.{pops}
use Rattle.job_queue.proofs.rule.pop.Goals as goal

pub pop_as-requires-clause-rule : goal.pop_as-requires-clause-rule
pop_as-requires-clause-rule g c =
    (subst (λ (v : Hand). Pops Turns c.args.pass.now.id v (λ x w. (w ≡ record v { taken = v.taken ++ x ∷ [] }) × (x.seat.session < v.made))) (sym c.requires.takes) (pops _ _ _ _), λ items views h at. tt)
