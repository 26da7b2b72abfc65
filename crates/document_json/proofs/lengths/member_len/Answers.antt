use Rattle.std.proofs.Common.{arith}
use Rattle.document_json.proofs.TextLengths.{length-member}
use Rattle.document_json.proofs.lengths.member_len.Goals as goal

pub returns : goal.returns
returns c d is = omega (arith, length-member c.args.name.now d, c.in_ok-name.ensures, c.in_ok-both.ensures, c.in_ok-len.ensures)
