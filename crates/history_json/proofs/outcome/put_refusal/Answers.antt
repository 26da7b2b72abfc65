use Rattle.std.proofs.Common.{◌++◌, string_bytes, ap, ◌∙◌}
use Rattle.std.specs.Prelude.{codes}
use Rattle.std.proofs.lemmas.Result.{on_ok_weaker}
use Rattle.history_json.proofs.Texts.{name_text}
use Rattle.history_json.proofs.outcome.put_refusal.Goals as goal

pub returns : goal.returns
returns c =
    let old = string_bytes c.args.text.now in
    on_ok_weaker c.write.result
    (λ h. h ∙ ap (λ n. old ++ (codes "\"" ++ (n ++ codes "\""))) c.name_of-name.ensures ∙ ap (λ t. old ++ t) (name_text c.args.refusal))
    c.write.ensures.bytes
