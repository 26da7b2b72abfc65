use Rattle.http_client.proofs.Cuts.{unfinished-unreadable, unreadable-no_response}
use Rattle.http_client.proofs.Parts.{response-unique, unfinished-no_response}
use Rattle.http_client.proofs.laws.one_response.Goals as goal

pub returns-clause-same : goal.returns-clause-same
returns-clause-same c = response-unique

pub returns-clause-whole : goal.returns-clause-whole
returns-clause-whole c = unfinished-no_response

pub returns-clause-readable : goal.returns-clause-readable
returns-clause-readable c = unreadable-no_response

pub returns-clause-part : goal.returns-clause-part
returns-clause-part c = unfinished-unreadable
