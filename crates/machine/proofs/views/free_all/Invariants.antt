use Rattle.std.proofs.Common.{◌≡◌, drop}
use Rattle.machine.specs.Views.{all_free}
use Rattle.machine.proofs.views.free_all.Given as goal

-- with the rest of the jobs, all are free
abbrev pub invariant-loop-job : goal.invariant-loop-job
invariant-loop-job l = all_free l.views.items (drop l.job-index l.jobs) ≡ all_free l.initial.views.items l.jobs
