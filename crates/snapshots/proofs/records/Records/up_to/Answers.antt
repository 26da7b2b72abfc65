use Rattle.std.proofs.Common.{arith, ap}
use Rattle.snapshots.specs.Listing.{Listing}
use Rattle.snapshots.proofs.Indexed.{IsIndexed-up_to}
use Rattle.snapshots.proofs.records.Records.up_to.Goals as goal

pub invariant_of-result : goal.invariant_of-result
invariant_of-result c = IsIndexed-up_to c.self.inside.by_id.entries c.self.inside.by_number.entries c.self.inside.live c.self.inside.update_seq c.args.update_seq (omega (arith, c.requires, ap (λ (l : Listing). l.update_seq) c.self.view_is)) c.self.invariant
