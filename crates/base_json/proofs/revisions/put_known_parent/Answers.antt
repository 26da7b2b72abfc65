use Rattle.std.proofs.Common.{string_bytes}
use Rattle.std.specs.Prelude.{codes}
use Rattle.std.proofs.lemmas.Result.{on_ok_weaker}
use Rattle.serde_json.specs.Written.{compact_text}
use Rattle.document_json.specs.Written.{rev_data}
use Rattle.history_json.proofs.Parts.{parts_3, pushed}
use Rattle.base_json.proofs.revisions.put_known_parent.Goals as goal

pub returns : goal.returns
returns c =
    on_ok_weaker c.push_str-2.result
    (λ h. parts_3 (string_bytes c.args.text.now) _ _ _ (codes "\"parent\":") (compact_text (rev_data c.args.parent.now)) (codes ",") c.in_ok-push_str.ensures.bytes c.in_ok-put.ensures h)
    (pushed c.push_str-2.result _ _ _ c.push_str-2.ensures.bytes)
