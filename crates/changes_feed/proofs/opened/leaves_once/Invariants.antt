-- So far each known revision once, and the known ones are seen.
use Rattle.std.proofs.Common.{◌≡◌, filter, take}
use Rattle.model.specs.Tree.{knows}
use Rattle.changes_feed.proofs.SeenLists.{IsSeen, once_where}
use Rattle.changes_feed.proofs.opened.leaves_once.Given as goal

abbrev pub invariant-loop-rev : goal.invariant-loop-rev
invariant-loop-rev l = record {
  once : l.once.items ≡ once_where (knows l.tree) (take l.rev-index l.revs);
  seen : IsSeen l.seen (filter (knows l.tree) (take l.rev-index l.revs));
}
