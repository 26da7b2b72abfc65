use Rattle.std.proofs.Common.{ap, sym}
use Rattle.replicator.specs.Call.{LocalGet}
use Rattle.replicator_run.proofs.Again.{asked_twice}
use Rattle.replicator_run.proofs.reopened.ReopenedPeer.local_get.Goals as goal

pub returns-clause-goes : goal.returns-clause-goes
returns-clause-goes g c =
    let told = LocalGet c.args.id.now in
    asked_twice _ c.args.self.now c.local_get-answer.new.self c.local_get-again.new.self c.reopen.new.self _ c.counted-2.new.self
    (told c.local_get-answer.result) (told c.local_get-again.result) (told c.counted-2.result)
    c.self.view_is tt c.local_get-answer.ensures.goes (ap told (c.has_failed.ensures.0 c.if-not-has_failed.false))
    (c.reopen.ensures.opened c.if-not-reopen.false) c.self-2.view_is c.local_get-again.ensures.goes c.counted-2.ensures.connection
    (ap told (sym c.counted-2.ensures.answer))
