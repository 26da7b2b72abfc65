use Rattle.std.proofs.Common.{◌+◌, length, ap, ◌∙◌}
use Rattle.snapshots.proofs.Shown.{changed-since}
use Rattle.snapshots.proofs.records.Records.count_changed_since.Goals as goal

pub returns : goal.returns
returns c = c.count_from.ensures.count ∙ ap length (changed-since c.self.inside.by_id.entries c.self.inside.by_number.entries c.self.inside.live c.self.inside.update_seq c.args.self.now c.self.invariant c.self.view_is c.args.since (c.min.result + 1) (ap (λ n. n + 1) c.min.ensures))
