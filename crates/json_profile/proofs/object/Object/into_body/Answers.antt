use Rattle.json_profile.proofs.Specials.{plain_rest}
use Rattle.json_profile.proofs.object.Object.into_body.Goals as goal

pub of_plain-requires : goal.of_plain-requires
of_plain-requires c = rw c.drop_specials.ensures (plain_rest _ c.self.invariant)
