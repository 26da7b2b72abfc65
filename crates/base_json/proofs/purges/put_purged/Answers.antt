use Rattle.std.proofs.Common.{◌++◌, string_bytes, decimal, ap, ◌∙◌}
use Rattle.std.specs.Prelude.{codes}
use Rattle.std.proofs.lemmas.Result.{on_ok_weaker}
use Rattle.serde_json.specs.Data.{string}
use Rattle.serde_json.specs.Written.{compact_text}
use Rattle.document_json.specs.Written.{revs_data}
use Rattle.purge.specs.Log.{info_of}
use Rattle.base_json.proofs.BaseTexts.{purge_info_text}
use Rattle.history_json.proofs.Parts.{parts_5}
use Rattle.base_json.proofs.purges.put_purged.Goals as goal

pub returns : goal.returns
returns c =
    let old = string_bytes c.args.text.now in
    let purged = c.args.purged.now in
    on_ok_weaker c.write.result
    (λ h. parts_5 old _ _ _ _ _ (codes "{\"id\":") (compact_text (string purged.0)) (codes ",\"leaves\":") (compact_text (revs_data purged.1)) (codes ",\"seq\":" ++ (decimal c.args.seq ++ codes "}"))
    c.in_ok-push_str.ensures.bytes (rw c.id.ensures at c.in_ok-put.ensures)
    c.in_ok-push_str-2.ensures.bytes (rw c.leaves.ensures at c.in_ok-put_list.ensures) h
    ∙ ap (λ t. old ++ t) (purge_info_text (info_of (c.args.seq, purged))))
    c.write.ensures.bytes
