use Rattle.std.proofs.Common.{◌++◌, string_bytes, decimal, ap, ◌∙◌}
use Rattle.std.specs.Prelude.{codes}
use Rattle.std.proofs.lemmas.Result.{on_ok_weaker}
use Rattle.serde_json.specs.Data.{string}
use Rattle.serde_json.specs.Written.{compact_text}
use Rattle.base_json.specs.Base.{tree_data}
use Rattle.base_json.proofs.BaseTexts.{record_text}
use Rattle.history_json.proofs.Parts.{parts_5}
use Rattle.base_json.proofs.documents.put_document.Goals as goal

pub returns : goal.returns
returns c =
    let old = string_bytes c.args.text.now in
    let id = c.args.id.now in
    let stored = c.args.stored.now in
    on_ok_weaker c.write.result
    (λ h. parts_5 old _ _ _ _ _ (codes "{\"id\":") (compact_text (string id)) (codes ",\"revs\":") (compact_text (tree_data stored.tree)) (codes ",\"seq\":" ++ (decimal stored.seq ++ codes "}"))
    c.in_ok-push_str.ensures.bytes c.in_ok-put.ensures c.in_ok-push_str-2.ensures.bytes
    (rw c.tree.ensures at c.in_ok-put_tree.ensures)
    (rw c.seq-seq.ensures at h)
    ∙ ap (λ t. old ++ t) (record_text id stored))
    c.write.ensures.bytes
