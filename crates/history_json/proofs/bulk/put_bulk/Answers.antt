use Rattle.std.proofs.Common.{◌++◌, map, string_bytes, ap, ◌∙◌}
use Rattle.std.specs.Prelude.{codes}
use Rattle.std.proofs.lemmas.Result.{on_ok_weaker}
use Rattle.serde_json.specs.Data.{array}
use Rattle.serde_json.specs.View.{items_of}
use Rattle.serde_json.specs.Written.{compact_text}
use Rattle.history_json.proofs.Parts.{parts_3}
use Rattle.history_json.proofs.Texts.{bulk_text, flag}
use Rattle.history_json.proofs.bulk.put_bulk.Goals as goal

pub returns : goal.returns
returns g c =
    let old = string_bytes c.args.text.now in
    let writes = map g.T.LineValue.data_of c.args.writes.now in
    on_ok_weaker c.write.result
    (λ h. parts_3 old _ _ _ (codes "{\"bulk\":") (compact_text (array (items_of writes))) (codes ",\"new_edits\":" ++ (flag c.args.new_edits ++ codes "}"))
    c.in_ok-push_str.ensures.bytes c.in_ok-put_list.ensures h
    ∙ ap (λ t. old ++ t) (bulk_text writes c.args.new_edits))
    c.write.ensures.bytes
