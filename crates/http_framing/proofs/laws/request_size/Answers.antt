use Rattle.http_framing.proofs.Part.{length-request, length-request-le}
use Rattle.http_framing.proofs.laws.request_size.Goals as goal

pub returns-clause-some : goal.returns-clause-some
returns-clause-some c = length-request

pub returns-clause-limit : goal.returns-clause-limit
returns-clause-limit c = length-request-le
