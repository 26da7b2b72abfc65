use Rattle.std.proofs.Common.{length, ap, ◌∙◌, arith}
use Rattle.std.proofs.lemmas.Result.{IfOk-weaker}
use Rattle.json.specs.Print.{quoted}
use Rattle.api_json.proofs.RowLengths.{length-listed}
use Rattle.api_json.proofs.all_docs.listed_len.Goals as goal

pub returns : goal.returns
returns c =
    let listed = c.args.listed.now in
    let id = ap length (c.in_ok-id.ensures ∙ ap quoted c.as_str.ensures.text) in
    IfOk-weaker c.sum_len-2.result _ _
    (λ len h. omega (arith, h, length-listed listed.0 listed.1, id, c.in_ok-both.ensures, c.named_rev_len.ensures.len)) c.sum_len-2.ensures
