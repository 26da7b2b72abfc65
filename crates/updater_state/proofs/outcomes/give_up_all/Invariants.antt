use Rattle.std.proofs.Common.{List, Option, drop}
use Rattle.updater_state.specs.Outcomes.{Fate, GivesUp}
use Rattle.updater_state.proofs.outcomes.give_up_all.Given as goal

-- what the rest of the jobs come to, all of them come to
abbrev pub invariant-loop-job : goal.invariant-loop-job
invariant-loop-job g l = (last : List (Option Fate)) → GivesUp g.J.Opening.config.max_places l.current (drop l.job-index l.jobs) l.outcomes.items last → GivesUp g.J.Opening.config.max_places l.current l.jobs l.initial.outcomes.items last
