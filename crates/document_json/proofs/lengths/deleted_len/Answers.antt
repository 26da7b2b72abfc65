use Rattle.document_json.proofs.TextLengths.{length-deleted, length-not_deleted}
use Rattle.document_json.proofs.lengths.deleted_len.Goals as goal

pub returns-then-deleted : goal.returns-then-deleted
returns-then-deleted c = length-deleted c.args.deleted c.if-deleted.true

pub returns-else-deleted : goal.returns-else-deleted
returns-else-deleted c = length-not_deleted c.args.deleted c.if-deleted.false
