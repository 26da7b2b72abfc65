use Rattle.std.proofs.Common.{ap, sym}
use Rattle.replicator.specs.Call.{OpenRevs}
use Rattle.replicator_run.proofs.Again.{asked_twice}
use Rattle.replicator_run.proofs.reopened.ReopenedPeer.open_revs.Goals as goal

pub returns-clause-goes : goal.returns-clause-goes
returns-clause-goes g c =
    let told = OpenRevs c.args.id.now c.args.revs.now in
    asked_twice _ c.args.self.now c.open_revs-answer.new.self c.open_revs-again.new.self c.reopen.new.self _ c.counted-2.new.self
    (told c.open_revs-answer.result) (told c.open_revs-again.result) (told c.counted-2.result)
    c.self.view_is tt c.open_revs-answer.ensures.goes (ap told (c.has_failed.ensures.0 c.if-not-has_failed.false))
    (c.reopen.ensures.opened c.if-not-reopen.false) c.self-2.view_is c.open_revs-again.ensures.goes c.counted-2.ensures.connection
    (ap told (sym c.counted-2.ensures.answer))
