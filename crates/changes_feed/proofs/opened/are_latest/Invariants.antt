-- So far each stands for itself.
use Rattle.std.proofs.Common.{◌≡◌, take}
use Rattle.std.specs.Prelude.{flat_map}
use Rattle.model.specs.Documents.{latest_or_itself}
use Rattle.changes_feed.proofs.opened.are_latest.Given as goal

abbrev pub invariant-loop-rev : goal.invariant-loop-rev
invariant-loop-rev l = flat_map (latest_or_itself l.tree) (take l.rev-index l.asked) ≡ take l.rev-index l.asked
