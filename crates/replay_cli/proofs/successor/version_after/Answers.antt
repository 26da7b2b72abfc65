use Rattle.std.proofs.Common.{sym, subst}
use Rattle.model.specs.Database.{IsDatabase}
use Rattle.model.specs.History.{IsBase}
use Rattle.replay_cli.proofs.Followed.{is_base_after}
use Rattle.replay_cli.proofs.successor.version_after.Goals as goal

pub over-requires : goal.over-requires
over-requires c =
    let base = rw c.in-Some.is at c.in_ok-base.ensures.base in
    let room = rw c.in-Some.is at c.in_ok-base.ensures.room in
    let valid = subst IsDatabase (sym c.database.ensures) c.place-recalled.ensures.history.database in
    subst IsBase (sym base) (is_base_after c.args.is_raised c.database.result.now valid room)
