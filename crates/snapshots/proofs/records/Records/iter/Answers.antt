use Rattle.std.proofs.Common.{◌∙◌}
use Rattle.snapshots.proofs.Shown.{entries-listed}
use Rattle.snapshots.proofs.records.Records.iter.Goals as goal

pub returns-clause-rest : goal.returns-clause-rest
returns-clause-rest c = c.iter.ensures.rest ∙ entries-listed c.self.inside.by_id.entries c.self.inside.by_number.entries c.self.inside.live c.self.inside.update_seq c.args.self.now c.self.invariant c.self.view_is
