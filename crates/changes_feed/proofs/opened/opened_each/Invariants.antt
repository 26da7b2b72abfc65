-- So far one for each revision.
use Rattle.std.proofs.Common.{◌≡◌, map, take}
use Rattle.model.specs.Documents.{opened_at}
use Rattle.changes_feed.proofs.opened.opened_each.Given as goal

abbrev pub invariant-loop-rev : goal.invariant-loop-rev
invariant-loop-rev l = l.answer.items ≡ map (opened_at l.id l.tree l.options) (take l.rev-index l.revs)
