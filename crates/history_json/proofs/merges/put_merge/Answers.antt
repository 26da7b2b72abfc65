use Rattle.std.proofs.Common.{◌++◌, true, string_bytes, ap, ◌∙◌}
use Rattle.std.specs.Prelude.{codes}
use Rattle.std.proofs.lemmas.Result.{on_ok_weaker}
use Rattle.serde_json.specs.Data.{member, no_members}
use Rattle.serde_json.specs.Written.{compact_text, members_text}
use Rattle.document_json.specs.Written.{revs_data}
use Rattle.history_json.specs.Fronts.{write_front}
use Rattle.history_json.proofs.Parts.{parts_2, parts_3, pushed}
use Rattle.history_json.proofs.Texts.{path_text, write_text}
use Rattle.history_json.proofs.merges.put_merge.Goals as goal

pub returns : goal.returns
returns c =
    let old = string_bytes c.args.text.now in
    let path = c.args.path.now in
    let more = member (codes "path") (revs_data path) no_members in
    let front = string_bytes c.put_write.new.text in
    on_ok_weaker c.push_str-2.result
    (λ h. parts_2 old front _ (write_front c.args.id.now c.args.deleted c.args.body.now) (members_text true more) c.in_ok-put_write.ensures
    (parts_3 front _ _ _ (codes ",\"path\":") (compact_text (revs_data path)) (codes "}") c.in_ok-push_str.ensures.bytes c.in_ok-put_list.ensures h
    ∙ ap (λ t. front ++ t) (path_text path))
    ∙ ap (λ t. old ++ t) (write_text c.args.id.now c.args.deleted c.args.body.now more))
    (pushed c.push_str-2.result _ _ _ c.push_str-2.ensures.bytes)
