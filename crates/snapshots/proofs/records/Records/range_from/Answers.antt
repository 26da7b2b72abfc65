use Rattle.std.proofs.Common.{ap, ◌∙◌}
use Rattle.cow_index.specs.Entries.{entries_from}
use Rattle.model.specs.Command.{names}
use Rattle.snapshots.proofs.Shown.{entries-listed}
use Rattle.snapshots.proofs.records.Records.range_from.Goals as goal

pub returns-clause-rest : goal.returns-clause-rest
returns-clause-rest c = c.range_from.ensures.rest ∙ ap (entries_from names.cmp c.args.id.now) (entries-listed c.self.inside.by_id.entries c.self.inside.by_number.entries c.self.inside.live c.self.inside.update_seq c.args.self.now c.self.invariant c.self.view_is)
