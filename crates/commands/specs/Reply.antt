-- The kinds of replies in the model's terms.
use Rattle.model.specs.Command as model
use Rattle.commands.specs.declared.reply.ReplyKind.{ReplyKind}
use Rattle.commands.specs.declared.reply.ReplyKind.TheVariants.{Wrote, WroteLocal, Purged, Done}

abbrev pub reply_of : ReplyKind → model.Reply
reply_of (Wrote writes) = model.Wrote writes
reply_of (WroteLocal write) = model.WroteLocal write
reply_of (Purged purge_seq removed) = model.Purged purge_seq removed
reply_of Done = model.Done
