use Rattle.http_framing.proofs.More.{BeginsWithRequest-append, IsRefused-append, Splits-append}
use Rattle.http_framing.proofs.laws.more_input.Goals as goal

pub returns-clause-request : goal.returns-clause-request
returns-clause-request c = λ bytes more request after. BeginsWithRequest-append bytes request after more

pub returns-clause-refused : goal.returns-clause-refused
returns-clause-refused c = IsRefused-append

pub returns-clause-reading : goal.returns-clause-reading
returns-clause-reading c = Splits-append
