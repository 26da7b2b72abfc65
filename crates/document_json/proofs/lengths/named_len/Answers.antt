use Rattle.std.proofs.Common.{length, ap, ◌∙◌, arith}
use Rattle.json.specs.Print.{quoted}
use Rattle.serde_json.specs.Data.{string}
use Rattle.serde_json.specs.Written.{compact_text}
use Rattle.model.specs.Query.{Document}
use Rattle.document_json.specs.Written.{rev_data}
use Rattle.document_json.proofs.TextLengths.{length-naming}
use Rattle.document_json.proofs.lengths.named_len.Goals as goal

pub returns : goal.returns
returns c =
    let d : Document = c.args.document.now in
    let is = c.document.view_is in
    let text = c.as_str.ensures.text ∙ ap (λ (d : Document). d.id) is in
    let id = c.in_ok-id.ensures (string d.id) (c.in_ok-own_id.ensures ∙ ap (λ t. length (quoted t)) text) in
    let rev = c.in_ok-rev.ensures (rev_data d.rev) (c.rev_len.ensures.len ∙ ap (λ (d : Document). length (compact_text (rev_data d.rev))) is) in
    omega (arith, length-naming d, id, rev, c.in_ok-len.ensures)
