use Rattle.http_framing.proofs.Unique.{one_fault}
use Rattle.http_framing.proofs.laws.one_fault.Goals as goal

pub returns : goal.returns
returns c = one_fault
