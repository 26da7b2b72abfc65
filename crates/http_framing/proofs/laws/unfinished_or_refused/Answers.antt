use Rattle.http_framing.proofs.Unique.{unfinished_refused}
use Rattle.http_framing.proofs.laws.unfinished_or_refused.Goals as goal

pub returns : goal.returns
returns c = unfinished_refused
