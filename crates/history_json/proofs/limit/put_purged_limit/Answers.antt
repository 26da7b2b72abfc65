use Rattle.std.proofs.Common.{◌++◌, string_bytes, ap, ◌∙◌}
use Rattle.std.proofs.lemmas.Result.{on_ok_weaker}
use Rattle.history_json.proofs.Texts.{purged_limit_text}
use Rattle.history_json.proofs.limit.put_purged_limit.Goals as goal

pub returns : goal.returns
returns c = on_ok_weaker c.write.result (λ h. h ∙ ap (λ t. string_bytes c.args.text.now ++ t) (purged_limit_text c.args.limit)) c.write.ensures.bytes
