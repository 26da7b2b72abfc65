use Rattle.snapshots.proofs.Indexed.{IsIndexed-empty}
use Rattle.snapshots.proofs.records.Records.new.Goals as goal

pub invariant_of-result : goal.invariant_of-result
invariant_of-result c = rw (c.new.ensures.entries, c.new-2.ensures.entries) IsIndexed-empty
