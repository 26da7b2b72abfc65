use Rattle.std.proofs.Common.{◌++◌, true, string_bytes, ap, ◌∙◌}
use Rattle.std.specs.Prelude.{codes, option_copied}
use Rattle.std.proofs.lemmas.Result.{on_ok_weaker}
use Rattle.serde_json.specs.Data.{string}
use Rattle.serde_json.specs.Written.{compact_text, members_text}
use Rattle.history_json.specs.Commands.{counter_member}
use Rattle.history_json.specs.Fronts.{body_front}
use Rattle.history_json.proofs.Parts.{parts_4}
use Rattle.history_json.proofs.Texts.{local_text}
use Rattle.history_json.proofs.local.put_local.Goals as goal

pub returns : goal.returns
returns c =
    let old = string_bytes c.args.text.now in
    let body = option_copied c.args.body in
    on_ok_weaker c.put_counter.result
    (λ h. parts_4 old _ _ _ _ (body_front body) (codes "\"local\":") (compact_text (string c.args.id.now)) (members_text true (counter_member c.args.named))
    c.in_ok-put_body.ensures c.in_ok-push_str.ensures.bytes c.in_ok-put.ensures h
    ∙ ap (λ t. old ++ t) (local_text c.args.id.now c.args.named body))
    c.put_counter.ensures
