use Rattle.std.proofs.Common.{◌≡◌, ◌+◌, ◌-◌, ◌<◌, ◌++◌, drop, length}
use Rattle.model.specs.Database.{merge_replies, after_merges}
use Rattle.snapshots.proofs.database.Database.merges.Given as goal

abbrev pub invariant-loop-index : goal.invariant-loop-index
invariant-loop-index l = record {
  after : after_merges l.self (drop l.index l.merges) ≡ after_merges l.initial.self l.merges;
  replies : l.replies.items ++ merge_replies l.self (drop l.index l.merges) ≡ merge_replies l.initial.self l.merges;
  room : l.self.update_seq + (length l.merges - l.index) < 18446744073709551615;
}
