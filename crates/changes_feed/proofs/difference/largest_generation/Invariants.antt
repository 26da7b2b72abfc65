-- So far the largest of those that were passed.
use Rattle.std.proofs.Common.{◌≡◌, drop}
use Rattle.std.specs.Prelude.{max}
use Rattle.model.specs.Documents.{largest_generation}
use Rattle.changes_feed.proofs.difference.largest_generation.Given as goal

abbrev pub invariant-loop-rev : goal.invariant-loop-rev
invariant-loop-rev l = max l.largest (largest_generation (drop l.rev-index l.revs)) ≡ largest_generation l.revs
