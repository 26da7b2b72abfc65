use Rattle.std.proofs.Common.{◌++◌, string_bytes, ap, ◌∙◌}
use Rattle.std.proofs.lemmas.Result.{on_ok_weaker}
use Rattle.history_json.proofs.Texts.{counter_text}
use Rattle.history_json.proofs.local.put_counter.Goals as goal

pub returns-in-Some : goal.returns-in-Some
returns-in-Some c =
    rw c.in-Some.is (on_ok_weaker c.write.result (λ h. h ∙ ap (λ t. string_bytes c.args.text.now ++ t) (counter_text c.in-Some.counter)) c.write.ensures.bytes)
