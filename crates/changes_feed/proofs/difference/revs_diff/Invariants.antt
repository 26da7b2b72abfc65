-- So far the differences of the documents that were passed.
use Rattle.std.proofs.Common.{◌≡◌, take}
use Rattle.model.specs.Map.{refine_list}
use Rattle.model.specs.Command.{names}
use Rattle.model.specs.History.{now}
use Rattle.model.specs.Documents.{difference}
use Rattle.changes_feed.proofs.difference.revs_diff.Given as goal

abbrev pub invariant-loop-document : goal.invariant-loop-document
invariant-loop-document l = l.lacking.items ≡ refine_list names (difference (now l.version)) (take l.document-index l.document-items)
