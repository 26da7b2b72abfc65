use Rattle.std.proofs.Common.{ap, sym, None}
use Rattle.replicator.specs.Call.{Changes}
use Rattle.replicator_run.proofs.Again.{asked_twice}
use Rattle.replicator_run.proofs.reopened.ReopenedPeer.changes.Goals as goal

pub returns-clause-goes : goal.returns-clause-goes
returns-clause-goes g c =
    let told = Changes None c.args.since c.args.limit in
    asked_twice _ c.args.self.now c.changes-answer.new.self c.changes-again.new.self c.reopen.new.self _ c.counted-2.new.self
    (told c.changes-answer.result) (told c.changes-again.result) (told c.counted-2.result)
    c.self.view_is tt c.changes-answer.ensures.goes (ap told (c.has_failed.ensures.0 c.if-not-has_failed.false))
    (c.reopen.ensures.opened c.if-not-reopen.false) c.self-2.view_is c.changes-again.ensures.goes c.counted-2.ensures.connection
    (ap told (sym c.counted-2.ensures.answer))
