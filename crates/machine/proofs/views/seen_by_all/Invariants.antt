use Rattle.std.proofs.Common.{◌≡◌, take}
use Rattle.machine.specs.Views.{seen_by}
use Rattle.machine.proofs.views.seen_by_all.Given as goal

abbrev pub invariant-loop-job : goal.invariant-loop-job
invariant-loop-job l = l.seen.items ≡ seen_by l.version (take l.job-index l.jobs)
