use Rattle.replicator_laws.proofs.Heads.{framed}
use Rattle.replicator_laws.proofs.laws.one_request.Goals as goal

pub returns : goal.returns
returns c = framed
