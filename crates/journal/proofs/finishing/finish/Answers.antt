use Rattle.std.proofs.Common.{sym, subst}
use Rattle.model.specs.History.{IsBase}
use Rattle.replay_cli.proofs.Followed.{is_base_after}
use Rattle.journal.proofs.finishing.finish.Goals as goal

pub over-requires : goal.over-requires
over-requires c =
    let base = rw c.in-Some.is at c.in_ok-base.ensures.base in
    let room = rw c.in-Some.is at c.in_ok-base.ensures.room in
    subst IsBase (sym base) (is_base_after c.raises-raised.result c.args.replayed.database c.requires.database room)
