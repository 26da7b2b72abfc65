use Rattle.replicator_http.proofs.Measured.{bulk_text-is}
use Rattle.replicator_http.proofs.laws.bulk_is_as_measured.Goals as goal

pub returns : goal.returns
returns c = λ documents. bulk_text-is documents
