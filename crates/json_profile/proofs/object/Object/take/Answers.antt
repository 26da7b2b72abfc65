use Rattle.std.proofs.Common.{sym}
use Rattle.json_profile.proofs.Taken.{profiled_member, profiled_others}
use Rattle.json_profile.proofs.object.Object.take.Goals as goal

pub invariant_of-self : goal.invariant_of-self
invariant_of-self c = rw c.take.ensures.left (profiled_others _ _ c.self.invariant)

pub of_value-requires : goal.of_value-requires
of_value-requires c = profiled_member _ _ _ (sym c.in_ok-value.ensures.taken) c.self.invariant

pub invariant_of-self-2 : goal.invariant_of-self-2
invariant_of-self-2 c = rw c.take.ensures.left (profiled_others _ _ c.self.invariant)
