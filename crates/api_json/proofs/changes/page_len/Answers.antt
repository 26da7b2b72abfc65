use Rattle.std.proofs.Common.{length, decimal, ap, ◌∙◌, arith}
use Rattle.std.proofs.lemmas.Result.{IfOk-weaker}
use Rattle.model.specs.Query.{ChangesPage}
use Rattle.serde_json.specs.Written.{compact_text}
use Rattle.api_json.specs.Changes.{rows_data}
use Rattle.api_json.proofs.RowLengths.{length-page}
use Rattle.api_json.proofs.changes.page_len.Goals as goal

pub returns : goal.returns
returns c = record {
  len =
      let page : ChangesPage = c.args.page.now in
      let is = c.page.view_is in
      let rows = c.in_ok-rows.ensures ∙ ap (λ rows. length (compact_text (rows_data rows))) (c.deref.ensures.value ∙ ap (λ (p : ChangesPage). p.rows) is) in
      let last_seq = c.digits_len.ensures.len ∙ ap (λ (p : ChangesPage). length (decimal p.last_seq)) is in
      let pending = c.digits_len-2.ensures.len ∙ ap (λ (p : ChangesPage). length (decimal p.pending)) is in
      IfOk-weaker c.sum_len.result _ _
      (λ len h. omega (arith, h, length-page page, rows, last_seq, pending)) c.sum_len.ensures;
}
