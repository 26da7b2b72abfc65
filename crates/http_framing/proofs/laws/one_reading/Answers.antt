use Rattle.http_framing.proofs.Unique.{one_reading}
use Rattle.http_framing.proofs.laws.one_reading.Goals as goal

pub returns : goal.returns
returns c = one_reading
