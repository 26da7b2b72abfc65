use Rattle.std.proofs.Common.{string_bytes, ◌∙◌}
use Rattle.std.proofs.lemmas.Result.{IfOk-weaker}
use Rattle.api_json.proofs.AnswerTexts.{found-text}
use Rattle.api_json.proofs.opened.found_text.Goals as goal

pub returns : goal.returns
returns c =
    IfOk-weaker c.format.result _ _ (λ s h. h ∙ found-text c.args.document.now (string_bytes c.in_ok-document.document) c.in_ok-document.ensures) c.format.ensures.ok
