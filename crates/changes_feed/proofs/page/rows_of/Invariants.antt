-- So far one row for each change.
use Rattle.std.proofs.Common.{◌≡◌, map}
use Rattle.std.specs.Map.Iter.{deref_pair}
use Rattle.model.specs.Changes.{row}
use Rattle.changes_feed.proofs.page.rows_of.Given as goal

abbrev pub invariant-loop-seq : goal.invariant-loop-seq
invariant-loop-seq l = l.rows.items ≡ map (row l.style) (map deref_pair l.yielded)
