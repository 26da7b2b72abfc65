use Rattle.model.proofs.LocalLaws.{local-there, local-gone, local-others}
use Rattle.model.proofs.databases.local_documents_count_their_writes.Goals as goal

pub returns-clause-written : goal.returns-clause-written
returns-clause-written c d id named b k = local-there d id named b k

pub returns-clause-gone : goal.returns-clause-gone
returns-clause-gone c d id named k = local-gone d id named k

pub returns-clause-others : goal.returns-clause-others
returns-clause-others c d id other named body = local-others d id named body other
