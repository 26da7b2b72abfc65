use Rattle.std.proofs.Common.{◌≡◌, ◌++◌, drop}
use Rattle.std.specs.Prelude.{map}
use Rattle.machine.specs.Events.{completed_of, wrote_from}
use Rattle.machine.proofs.batches.wrote_after.Given as goal

-- with the calls of the rest, all are there
abbrev pub invariant-loop-place : goal.invariant-loop-place
invariant-loop-place l = map completed_of l.calls.items ++ wrote_from l.place (drop l.place l.version.entries) ≡ wrote_from l.fn.after (drop l.fn.after l.version.entries)
