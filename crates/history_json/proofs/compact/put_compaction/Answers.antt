use Rattle.std.proofs.Common.{◌++◌, string_bytes, ap, ◌∙◌}
use Rattle.std.proofs.lemmas.Result.{on_ok_weaker}
use Rattle.history_json.proofs.Parts.{pushed}
use Rattle.history_json.proofs.Texts.{compaction_text}
use Rattle.history_json.proofs.compact.put_compaction.Goals as goal

pub returns : goal.returns
returns c = on_ok_weaker c.push_str.result (λ h. h ∙ ap (λ t. string_bytes c.args.text.now ++ t) compaction_text) (pushed c.push_str.result _ _ _ c.push_str.ensures.bytes)
