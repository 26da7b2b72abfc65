use Rattle.std.proofs.Common.{◌≡◌, ◌+◌, ◌-◌, ◌<◌, ◌++◌, drop, length}
use Rattle.model.specs.Database.{edit_replies, after_edits}
use Rattle.snapshots.proofs.database.Database.edits.Given as goal

abbrev pub invariant-loop-index : goal.invariant-loop-index
invariant-loop-index l = record {
  after : after_edits l.self (drop l.index l.edits) ≡ after_edits l.initial.self l.edits;
  replies : l.replies.items ++ edit_replies l.self (drop l.index l.edits) ≡ edit_replies l.initial.self l.edits;
  room : l.self.update_seq + (length l.edits - l.index) < 18446744073709551615;
}
