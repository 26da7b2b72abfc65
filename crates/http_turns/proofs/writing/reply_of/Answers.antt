use Rattle.std.proofs.Common.{sym, ◌∙◌}
use Rattle.http_response.specs.Texts.{reply_text}
use Rattle.http_turns.proofs.Texts.{reply_due}
use Rattle.http_turns.proofs.writing.reply_of.Goals as goal

pub unreachable-requires : goal.unreachable-requires
unreachable-requires c =
    let entry = c.args.entry.now in
    reply_due c.args.place c.args.connection c.args.form entry.command entry.reply c.requires
    (sym c.in_default.is ∙ c.in_ok-response.ensures.text ∙ (λ i. reply_text c.args.place c.args.connection c.args.form (c.entry.view_is i).command (c.entry.view_is i).reply))
