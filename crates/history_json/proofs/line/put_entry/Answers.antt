use Rattle.std.proofs.Common.{◌++◌, true, string_bytes, ap, ◌∙◌}
use Rattle.std.specs.Prelude.{codes}
use Rattle.std.proofs.lemmas.Result.{on_ok_weaker}
use Rattle.serde_json.specs.Data.{member, no_members}
use Rattle.serde_json.specs.Written.{compact_text, members_text}
use Rattle.model.specs.Command.{Entry}
use Rattle.history_json.specs.Commands.{command_data}
use Rattle.history_json.specs.Line.{seat_data}
use Rattle.history_json.specs.Replies.{reply_data}
use Rattle.history_json.proofs.Parts.{parts_5}
use Rattle.history_json.proofs.Texts.{entry_text}
use Rattle.history_json.proofs.line.put_entry.Goals as goal

pub returns : goal.returns
returns c =
    let old = string_bytes c.args.text.now in
    let e : Entry = record { seat = c.args.seat; command = c.args.command.now; reply = c.args.reply.now } in
    on_ok_weaker c.put_seat.result
    (λ h. parts_5 old _ _ _ _ _ (codes "{\"command\":") (compact_text (command_data e.command)) (codes ",\"reply\":") (compact_text (reply_data e.reply))
    (members_text true (member (codes "seat") (seat_data e.seat) no_members))
    c.in_ok-push_str.ensures.bytes c.in_ok-put_command.ensures c.in_ok-push_str-2.ensures.bytes c.in_ok-put_reply.ensures h
    ∙ ap (λ t. old ++ t) (entry_text e))
    c.put_seat.ensures
