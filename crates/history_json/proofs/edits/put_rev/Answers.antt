use Rattle.std.proofs.Common.{◌++◌, string_bytes, ap, ◌∙◌}
use Rattle.std.specs.Prelude.{codes}
use Rattle.std.proofs.lemmas.Result.{on_ok_weaker}
use Rattle.serde_json.specs.Written.{compact_text}
use Rattle.document_json.specs.Written.{rev_data}
use Rattle.history_json.proofs.Parts.{parts_3, pushed}
use Rattle.history_json.proofs.Texts.{named_text}
use Rattle.history_json.proofs.edits.put_rev.Goals as goal

pub returns : goal.returns
returns c =
    let old = string_bytes c.args.text.now in
    let rev = c.args.rev.now in
    on_ok_weaker c.push_str-2.result
    (λ h. parts_3 old _ _ _ (codes ",\"rev\":") (compact_text (rev_data rev)) (codes "}") c.in_ok-push_str.ensures.bytes c.in_ok-put.ensures h
    ∙ ap (λ t. old ++ t) (named_text rev))
    (pushed c.push_str-2.result _ _ _ c.push_str-2.ensures.bytes)
