-- So far each revision once, and these are seen.
use Rattle.std.proofs.Common.{◌≡◌, take}
use Rattle.model.specs.Lists.{each_once}
use Rattle.model.specs.Revision.{same_rev}
use Rattle.changes_feed.proofs.SeenLists.{IsSeen}
use Rattle.changes_feed.proofs.once.once.Given as goal

abbrev pub invariant-loop-rev : goal.invariant-loop-rev
invariant-loop-rev l = record {
  once : l.once.items ≡ each_once same_rev (take l.rev-index l.revs);
  seen : IsSeen l.seen (take l.rev-index l.revs);
}
