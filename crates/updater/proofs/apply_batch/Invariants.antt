use Rattle.std.proofs.Common.{◌≡◌, ◌+◌, length, drop}
use Rattle.model.specs.History.{now, extended, batch_entries}
use Rattle.updater.proofs.Steps.{Goes}
use Rattle.updater.proofs.apply_batch.Given as goal

abbrev pub invariant-loop-job : goal.invariant-loop-job
invariant-loop-job l = Goes (extended l.version (batch_entries (now l.version) l.jobs)) l.next (drop l.job-index l.jobs) × (length l.next.entries ≡ length l.version.entries + l.job-index)
