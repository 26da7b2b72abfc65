use Rattle.std.proofs.Common.{sym}
use Rattle.document_json.proofs.TextLengths.{length-hash}
use Rattle.document_json.proofs.lengths.hash_len.Goals as goal

pub returns : goal.returns
returns c = sym (length-hash c.args.rev.now c.generation-recalled.ensures.in_range)
