use Rattle.std.proofs.Common.{sym, ◌∙◌, arith}
use Rattle.document_json.proofs.TextLengths.{length-unescaped}
use Rattle.document_json.proofs.lengths.quoted_len.Goals as goal

pub returns-then-is_all_unescaped : goal.returns-then-is_all_unescaped
returns-then-is_all_unescaped c = omega (arith, length-unescaped c.args.string.now (sym c.is_all_unescaped.ensures ∙ c.if-is_all_unescaped.true))
