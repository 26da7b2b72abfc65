use Rattle.revision_id.proofs.Texts.{utf8_lower}
use Rattle.revision_id.proofs.rev.RevIdDisplay.fmt.Goals as goal

pub unreachable-requires : goal.unreachable-requires
unreachable-requires g c = c.in_default.ensures.cases.0 (rw c.lower_hex-digits.ensures (utf8_lower _))
