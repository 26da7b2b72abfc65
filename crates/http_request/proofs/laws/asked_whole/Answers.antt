use Rattle.http_request.proofs.WholeAnswers.{asked-whole}
use Rattle.http_request.proofs.laws.asked_whole.Goals as goal

pub returns : goal.returns
returns c = asked-whole
