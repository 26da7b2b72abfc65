use Rattle.journal.proofs.Grown.{begins_by, held_by}
use Rattle.journal.proofs.journal.Journal.append.Goals as goal

pub returns : goal.returns
returns g c =
    let done = c.append_above.ensures in
    let old = c.args.self.now in
    let new = c.append_above.new.self in
    let v = c.args.version.now in
    let result = c.append_above.result in
    record {
      appended = done.appended;
      memory = done.memory;
      failed = done.failed;
      held = held_by old new v result done.appended;
      said = done.said;
      broken = done.broken;
      begins = begins_by old new v result done.appended done.memory done.failed;
    }
