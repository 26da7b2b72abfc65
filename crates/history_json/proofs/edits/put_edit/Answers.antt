use Rattle.std.proofs.Common.{◌++◌, true, string_bytes, ap, ◌∙◌}
use Rattle.std.specs.Prelude.{option_copied}
use Rattle.std.proofs.lemmas.Result.{on_ok_weaker}
use Rattle.serde_json.specs.Written.{members_text}
use Rattle.history_json.specs.Commands.{rev_member}
use Rattle.history_json.specs.Fronts.{write_front}
use Rattle.history_json.proofs.Parts.{parts_2}
use Rattle.history_json.proofs.Texts.{write_text}
use Rattle.history_json.proofs.edits.put_edit.Goals as goal

pub returns : goal.returns
returns c =
    let old = string_bytes c.args.text.now in
    let more = rev_member (option_copied c.args.named) in
    on_ok_weaker c.put_named.result
    (λ h. parts_2 old _ _ (write_front c.args.id.now c.args.deleted c.args.body.now) (members_text true more) c.in_ok-put_write.ensures h
    ∙ ap (λ t. old ++ t) (write_text c.args.id.now c.args.deleted c.args.body.now more))
    c.put_named.ensures
