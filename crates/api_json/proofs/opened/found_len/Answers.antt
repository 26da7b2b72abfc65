use Rattle.std.proofs.Common.{◌+◌, sym, ap, ◌∙◌}
use Rattle.std.proofs.lemmas.Result.{IfOk-weaker}
use Rattle.api_json.proofs.OpenedLengths.{length-found}
use Rattle.api_json.proofs.opened.found_len.Goals as goal

pub returns : goal.returns
returns c =
    IfOk-weaker c.sum_len.result _ _ (λ sum h. h ∙ ap (λ n. n + 7) c.in_ok-own.ensures ∙ sym (length-found c.args.document.now)) c.sum_len.ensures
