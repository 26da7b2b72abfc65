use Rattle.http_client.proofs.Cuts.{BeginsWithResponse-append, HasManyHeaders-append, IsUnreadable-append}
use Rattle.http_client.proofs.laws.more_bytes.Goals as goal

pub returns-clause-response : goal.returns-clause-response
returns-clause-response c = BeginsWithResponse-append

pub returns-clause-unreadable : goal.returns-clause-unreadable
returns-clause-unreadable c = IsUnreadable-append

pub returns-clause-headers : goal.returns-clause-headers
returns-clause-headers c = HasManyHeaders-append
