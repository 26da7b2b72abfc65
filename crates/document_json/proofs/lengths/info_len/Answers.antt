use Rattle.std.proofs.Common.{length, ap, arith}
use Rattle.document_json.proofs.TextLengths.{length-info}
use Rattle.document_json.proofs.lengths.info_len.Goals as goal

pub returns : goal.returns
returns c = omega (arith, length-info c.args.info.now, c.rev_len.ensures.len, ap length c.name_of.ensures)
