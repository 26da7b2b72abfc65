use Rattle.std.proofs.Common.{rules, ◌++◌, map, ap, ◌∙◌}
use Rattle.std.proofs.lemmas.Result.{IfOk-weaker}
use Rattle.serde_json.specs.Data.{object}
use Rattle.serde_json.specs.Written.{compact_text}
use Rattle.api_json.specs.Differences.{named_difference}
use Rattle.api_json.specs.Objects.{members_from}
use Rattle.api_json.proofs.differences.object_text.Goals as goal

pub returns : goal.returns
returns c =
    let documents = c.args.documents.now in
    IfOk-weaker c.append_object.result _ _
    (λ text told. told ∙ ap (λ before. before ++ compact_text (object (members_from (map named_difference documents)))) c.new.ensures.bytes)
    (c.append_object.ensures named_difference (λ written item told longer h. search rules))
