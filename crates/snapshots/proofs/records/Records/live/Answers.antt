use Rattle.snapshots.proofs.Shown.{live-counted}
use Rattle.snapshots.proofs.records.Records.live.Goals as goal

pub returns : goal.returns
returns c = live-counted c.self.inside.by_id.entries c.self.inside.by_number.entries c.self.inside.live c.self.inside.update_seq c.args.self.now c.self.invariant c.self.view_is
