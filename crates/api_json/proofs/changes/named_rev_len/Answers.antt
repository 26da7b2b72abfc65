use Rattle.std.proofs.Common.{arith}
use Rattle.api_json.proofs.RowLengths.{length-named_rev}
use Rattle.api_json.proofs.changes.named_rev_len.Goals as goal

pub returns-clause-len : goal.returns-clause-len
returns-clause-len c = omega (arith, length-named_rev c.args.rev.now, c.rev_len.ensures.len)
