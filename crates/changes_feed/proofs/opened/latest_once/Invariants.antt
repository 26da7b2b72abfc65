-- So far each leaf of the revisions that were passed once, and the revisions that are not known.
use Rattle.std.proofs.Common.{◌≡◌, take}
use Rattle.std.specs.Prelude.{flat_map}
use Rattle.model.specs.Documents.{latest_or_itself}
use Rattle.model.specs.Tree.{knows}
use Rattle.changes_feed.proofs.SeenLists.{once_where}
use Rattle.changes_feed.proofs.opened.latest_once.Given as goal

abbrev pub invariant-loop-place : goal.invariant-loop-place
invariant-loop-place l = l.once.items ≡ once_where (knows l.tree) (flat_map (latest_or_itself l.tree) (take l.place l.asked))
