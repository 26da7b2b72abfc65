use Rattle.std.proofs.Common.{ap, ◌∙◌, length}
use Rattle.snapshots.proofs.Shown.{entries-listed}
use Rattle.snapshots.proofs.records.Records.len.Goals as goal

pub returns : goal.returns
returns c = c.len.ensures.count ∙ ap length (entries-listed c.self.inside.by_id.entries c.self.inside.by_number.entries c.self.inside.live c.self.inside.update_seq c.args.self.now c.self.invariant c.self.view_is)
