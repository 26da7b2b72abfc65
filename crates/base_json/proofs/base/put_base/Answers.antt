use Rattle.std.proofs.Common.{◌++◌, string_bytes, ap, ◌∙◌}
use Rattle.std.specs.Prelude.{codes}
use Rattle.std.proofs.lemmas.Result.{on_ok_weaker}
use Rattle.serde_json.specs.Written.{compact_text}
use Rattle.base_json.specs.Base.{base_data}
use Rattle.base_json.proofs.BaseTexts.{base_line_text}
use Rattle.history_json.proofs.Parts.{parts_3, pushed}
use Rattle.base_json.proofs.base.put_base.Goals as goal

pub returns : goal.returns
returns c =
    let old = string_bytes c.args.text.now in
    record {
      line = on_ok_weaker c.push_str-2.result
          (λ h. parts_3 old _ _ _ (codes "{\"base\":") (compact_text (base_data c.args.base.now)) (codes ",\"couch_history\":2}")
          c.in_ok-push_str.ensures.bytes c.in_ok-put_database.ensures h
          ∙ ap (λ t. old ++ t) (base_line_text c.args.base.now))
          (pushed c.push_str-2.result _ _ _ c.push_str-2.ensures.bytes);
    }
