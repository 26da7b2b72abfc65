use Rattle.model.proofs.HistoryLaws.{IsLegal-append, IsLegal-push, IsLegal-entries}
use Rattle.model.proofs.histories.legal_histories_go_on.Goals as goal

pub returns-clause-next : goal.returns-clause-next
returns-clause-next c = IsLegal-push

pub returns-clause-parts : goal.returns-clause-parts
returns-clause-parts c = IsLegal-append

pub returns-clause-entries : goal.returns-clause-entries
returns-clause-entries c = IsLegal-entries
