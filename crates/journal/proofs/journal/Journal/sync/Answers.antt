use Rattle.journal.proofs.Grown.{begins_same, covered_by}
use Rattle.journal.proofs.journal.Journal.sync.Goals as goal

pub returns : goal.returns
returns g c =
    let done = c.sync_file.ensures in
    let old = c.args.self.now in
    let new = c.sync_file.new.self in
    record {
      covered = done.covered;
      told = done.told;
      failed = done.failed;
      memory = done.memory;
      broken = done.broken;
      held = covered_by old new c.sync_file.result done.covered;
      begins = λ h begins. begins_same old new h done.taken begins;
    }
