use Rattle.std.proofs.Common.{ap, sym, Some}
use Rattle.replicator.specs.Call.{Changes}
use Rattle.replicator_run.proofs.Again.{asked_twice}
use Rattle.replicator_run.proofs.reopened.ReopenedPeer.changes_of.Goals as goal

pub returns-clause-goes : goal.returns-clause-goes
returns-clause-goes g c =
    let told = Changes (Some c.args.ids.now) c.args.since c.args.limit in
    asked_twice _ c.args.self.now c.changes_of-answer.new.self c.changes_of-again.new.self c.reopen.new.self _ c.counted-2.new.self
    (told c.changes_of-answer.result) (told c.changes_of-again.result) (told c.counted-2.result)
    c.self.view_is tt c.changes_of-answer.ensures.goes (ap told (c.has_failed.ensures.0 c.if-not-has_failed.false))
    (c.reopen.ensures.opened c.if-not-reopen.false) c.self-2.view_is c.changes_of-again.ensures.goes c.counted-2.ensures.connection
    (ap told (sym c.counted-2.ensures.answer))
