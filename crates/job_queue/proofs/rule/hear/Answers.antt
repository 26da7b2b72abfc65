use Rattle.std.proofs.Common.{sym, subst}
use Rattle.crossbeam_queue.specs.Fifo.{Merges}
use Rattle.crossbeam_queue.specs.Passes.{view}
use Rattle.job_queue.specs.declared.rule.Hand.{Hand}
use Rattle.job_queue.specs.Turns.{Turns, note, nobody, count}
use Rattle.job_queue.proofs.Moves.{informs}
use Rattle.job_queue.proofs.rule.hear.Goals as goal

pub absorb-requires-clause-rule : goal.absorb-requires-clause-rule
absorb-requires-clause-rule c =
    subst (λ (w : Hand). Merges Turns c.args.pass.now.id (view c.args.pass.now) c.args.word.id w (record (view c.args.pass.now) { gone = count (view c.args.pass.now).number w.taken }) nobody) (sym c.requires.views.0)
    (subst (λ (v : Hand). Merges Turns c.args.pass.now.id v c.args.word.id (note (view c.args.word).taken) (record v { gone = count v.number (view c.args.word).taken }) nobody) (sym c.requires.views.1) (informs _ _ _ _ _ _ _))
