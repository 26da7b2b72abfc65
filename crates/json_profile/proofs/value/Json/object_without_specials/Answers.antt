use Rattle.json_profile.proofs.Parts.{profiled_object}
use Rattle.json_profile.proofs.Specials.{plain_rest}
use Rattle.json_profile.proofs.value.Json.object_without_specials.Goals as goal

pub of_plain-requires : goal.of_plain-requires
of_plain-requires c = rw c.in_ok-kept.ensures (plain_rest _ (profiled_object _ _ c.in-Some.ensures c.self.invariant))
