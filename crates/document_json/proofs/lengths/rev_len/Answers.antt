use Rattle.std.proofs.Common.{length, decimal, ap, ◌∙◌, arith}
use Rattle.document_json.proofs.TextLengths.{length-rev}
use Rattle.document_json.proofs.lengths.rev_len.Goals as goal

pub returns-clause-len : goal.returns-clause-len
returns-clause-len c =
    let digits = c.digits_len.ensures.len ∙ ap (λ n. length (decimal n)) c.generation.ensures.value in
    omega (arith, length-rev c.args.rev.now c.generation.ensures.in_range, digits)
