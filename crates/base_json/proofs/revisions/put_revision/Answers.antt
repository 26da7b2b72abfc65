use Rattle.std.proofs.Common.{◌++◌, string_bytes, ap, ◌∙◌}
use Rattle.std.specs.Prelude.{codes, option_copied}
use Rattle.std.proofs.lemmas.Result.{on_ok_weaker}
use Rattle.serde_json.specs.Written.{compact_text}
use Rattle.document_json.specs.Written.{rev_data}
use Rattle.history_json.specs.Fronts.{body_front}
use Rattle.base_json.specs.Fronts.{parent_front}
use Rattle.base_json.proofs.BaseTexts.{revision_text}
use Rattle.history_json.proofs.Parts.{parts_2, parts_5, pushed}
use Rattle.history_json.proofs.Texts.{flag}
use Rattle.base_json.proofs.revisions.put_revision.Goals as goal

pub returns : goal.returns
returns c =
    let old = string_bytes c.args.text.now in
    let first = string_bytes c.put_body.new.text in
    let rev = c.args.rev.now in
    let parent = option_copied c.args.parent in
    let body = option_copied c.args.body in
    on_ok_weaker c.push_str-2.result
    (λ h. parts_2 old first _ (body_front body) _ c.in_ok-put_body.ensures
    (parts_5 first _ _ _ _ _ (codes "\"deleted\":" ++ (flag c.args.deleted ++ codes ",")) (parent_front parent) (codes "\"rev\":") (compact_text (rev_data rev)) (codes "}")
    c.in_ok-write.ensures.bytes c.in_ok-put_parent.ensures c.in_ok-push_str.ensures.bytes c.in_ok-put.ensures h)
    ∙ ap (λ t. old ++ t) (revision_text rev parent c.args.deleted body))
    (pushed c.push_str-2.result _ _ _ c.push_str-2.ensures.bytes)
