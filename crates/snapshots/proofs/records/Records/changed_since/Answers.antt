use Rattle.std.proofs.Common.{◌+◌, ap, ◌∙◌}
use Rattle.snapshots.proofs.Shown.{changed-since}
use Rattle.snapshots.proofs.records.Records.changed_since.Goals as goal

pub returns-clause-rest : goal.returns-clause-rest
returns-clause-rest c = c.range_from.ensures.rest ∙ changed-since c.self.inside.by_id.entries c.self.inside.by_number.entries c.self.inside.live c.self.inside.update_seq c.args.self.now c.self.invariant c.self.view_is c.args.since (c.min.result + 1) (ap (λ n. n + 1) c.min.ensures)
