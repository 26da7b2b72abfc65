use Rattle.std.proofs.Common.{length, decimal, ap, ◌∙◌, arith}
use Rattle.std.proofs.lemmas.Result.{IfOk-weaker}
use Rattle.json.specs.Print.{quoted}
use Rattle.model.specs.Query.{Row}
use Rattle.serde_json.specs.Written.{compact_text}
use Rattle.api_json.specs.Changes.{before_id, leaves_data}
use Rattle.api_json.proofs.RowLengths.{length-row}
use Rattle.api_json.proofs.changes.row_len.Goals as goal

pub returns : goal.returns
returns c =
    let row : Row = c.args.row.now in
    let is = c.row.view_is in
    let leaves = c.in_ok-leaves.ensures ∙ ap (λ revs. length (compact_text (leaves_data revs))) (c.deref.ensures.value ∙ ap (λ (r : Row). r.changes) is) in
    let id = ap length (c.in_ok-id.ensures ∙ ap quoted (c.as_str.ensures.text ∙ ap (λ (r : Row). r.id) is)) in
    let mark = ap length (c.before_id.ensures ∙ ap (λ (r : Row). before_id r.deleted) is) in
    let digits = c.digits_len.ensures.len ∙ ap (λ (r : Row). length (decimal r.seq)) is in
    IfOk-weaker c.sum_len-3.result _ _
    (λ len h. omega (arith, h, length-row row, leaves, id, mark, digits, c.in_ok-both.ensures, c.in_ok-marks.ensures)) c.sum_len-3.ensures
