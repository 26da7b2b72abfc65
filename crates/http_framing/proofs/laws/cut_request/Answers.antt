use Rattle.http_framing.proofs.Part.{beginning_is_unfinished, unfinished_is_no_request, length-unfinished}
use Rattle.http_framing.proofs.laws.cut_request.Goals as goal

pub returns-clause-cut : goal.returns-clause-cut
returns-clause-cut c = beginning_is_unfinished

pub returns-clause-not_whole : goal.returns-clause-not_whole
returns-clause-not_whole c = unfinished_is_no_request

pub returns-clause-limit : goal.returns-clause-limit
returns-clause-limit c = length-unfinished
