use Rattle.std.proofs.Common.{arith}
use Rattle.document_json.proofs.TextLengths.{special-length}
use Rattle.document_json.proofs.lengths.special_len.Goals as goal

pub returns : goal.returns
returns c =
    omega (arith, special-length c.args.document.now, c.in_ok-conflicts.ensures, c.in_ok-named.ensures, c.in_ok-ancestors.ensures, c.in_ok-both.ensures, c.in_ok-len.ensures)
