use Rattle.std.proofs.Common.{Some, ap, sym, ◌∙◌}
use Rattle.std.specs.Prelude.{option_map}
use Rattle.commands.specs.Reply.{reply_of}
use Rattle.model.specs.Command.{Command, Reply}
use Rattle.http_response.specs.Response.{bytes_of}
use Rattle.http_response.specs.Texts.{reply_text, told_text}
use Rattle.http_response.specs.Told.{reply_told}
use Rattle.http_response.proofs.replied.reply.Goals as goal

pub returns : goal.returns
unfolding reply_text
returns c = record {
  text =
      let form = c.args.form in
      let told =
      c.in_ok-status.ensures ∙ ap (λ (command : Command). reply_told form command (reply_of c.kind-2.result.now)) c.kind.ensures.kind
      ∙ ap (λ (reply : Reply). reply_told form c.args.command.now reply) c.kind-2.ensures.kind in
      ap Some c.plain.ensures
      ∙ ap (λ d. option_map (told_text c.args.place c.args.connection) (option_map (λ t. (t.0, bytes_of t.1)) d)) (sym c.in-Some.is)
      ∙ ap (option_map (told_text c.args.place c.args.connection)) told;
}
