use Rattle.std.proofs.Common.{◌+◌, ap, sym, ◌∙◌}
use Rattle.model.specs.Database.{Database, calls_of}
use Rattle.snapshots.proofs.Calls.{calls_of-changed}
use Rattle.snapshots.proofs.database.Database.act.Goals as goal

pub count_call-requires : goal.count_call-requires
count_call-requires c =
    c.call.ensures.call
    ∙ c.requires.next
    ∙ ap (λ n. n + 1) (sym (calls_of-changed c.args.self.now c.args.command.now c.args.seat.session))
    ∙ ap (λ (d : Database). calls_of d c.args.seat.session + 1) (sym c.in_ok-reply.ensures.after)
    ∙ ap (λ s. calls_of c.change.new.self s + 1) (sym c.session.ensures.session)
