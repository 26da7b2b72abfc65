-- So far the live ones.
use Rattle.std.proofs.Common.{◌≡◌, map}
use Rattle.std.specs.Prelude.{filter_map}
use Rattle.std.specs.Map.Iter.{deref_pair}
use Rattle.model.specs.Answers.{live_document}
use Rattle.changes_feed.proofs.reads.all_docs.Given as goal

abbrev pub invariant-loop-id : goal.invariant-loop-id
invariant-loop-id l = l.documents.items ≡ filter_map live_document (map deref_pair l.yielded)
