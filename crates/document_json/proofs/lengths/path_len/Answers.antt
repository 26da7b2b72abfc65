use Rattle.std.proofs.Common.{length, decimal, ap, rules, arith}
use Rattle.document_json.specs.Written.{hash_data}
use Rattle.document_json.proofs.TextLengths.{length-path}
use Rattle.document_json.proofs.lengths.path_len.Goals as goal

pub returns : goal.returns
returns c =
    let hashes = c.in_ok-hashes.ensures hash_data (λ item answered h. search rules) in
    let first = ap (λ n. length (decimal n)) c.first_generation.ensures in
    omega (arith, hashes, length-path c.args.revs.now, c.digits_len-digits.ensures.len, first, c.in_ok-len.ensures)
