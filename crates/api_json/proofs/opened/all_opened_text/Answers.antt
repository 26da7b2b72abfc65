use Rattle.std.proofs.Common.{rules, ◌++◌, ap, ◌∙◌}
use Rattle.std.proofs.lemmas.Result.{IfOk-weaker}
use Rattle.serde_json.specs.Written.{compact_text}
use Rattle.api_json.specs.Opened.{all_opened_data, opened_data}
use Rattle.api_json.proofs.opened.all_opened_text.Goals as goal

pub returns : goal.returns
returns c =
    IfOk-weaker c.append_list.result _ _
    (λ text told. told ∙ ap (λ before. before ++ compact_text (all_opened_data c.args.opened.now)) c.new.ensures.bytes)
    (c.append_list.ensures opened_data (λ item told h. search rules))
