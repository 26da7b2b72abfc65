use Rattle.std.proofs.Common.{arith}
use Rattle.std.proofs.lemmas.Result.{IfOk-weaker}
use Rattle.api_json.proofs.RowLengths.{length-all_docs}
use Rattle.api_json.proofs.all_docs.all_docs_len.Goals as goal

pub returns : goal.returns
returns c = record {
  len =
      IfOk-weaker c.sum_len.result _ _
      (λ len h. omega (arith, h, length-all_docs c.args.documents.now, c.in_ok-rows.ensures, c.digits_len.ensures.len)) c.sum_len.ensures;
}
