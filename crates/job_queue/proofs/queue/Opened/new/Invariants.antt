use Rattle.std.proofs.Common.{◌≡◌, []}
use Rattle.crossbeam_queue.specs.Passes.{view as known}
use Rattle.crossbeam_queue.specs.Passes.{IsPassOf}
use Rattle.job_queue.specs.Turns.{updater}
use Rattle.job_queue.proofs.queue.Opened.new.Given as goal

abbrev pub invariant-loop-number : goal.invariant-loop-number
invariant-loop-number l = IsPassOf l.jobs l.pass × (known l.pass ≡ updater [] 0 l.number)
