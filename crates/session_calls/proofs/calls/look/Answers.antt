use Rattle.std.proofs.Common.{Ok, Err, ap}
use Rattle.session_api.specs.SessionCall.{Refreshed}
use Rattle.session_calls.proofs.Sessions.{learns_of, look_refused, kept_of, same_fault}
use Rattle.session_calls.proofs.calls.look.Goals as goal

pub returns-in-Ok-clause-goes : goal.returns-in-Ok-clause-goes
returns-in-Ok-clause-goes g c = (c.in-Ok.ensures.looks, kept_of c.args.session.now.lost (λ lost. c.in-Ok.ensures.lost.1 lost))

pub returns-in-Ok-clause-learns : goal.returns-in-Ok-clause-learns
returns-in-Ok-clause-learns g c = learns_of g.J.Naming.base g.J.Opening.config g.J.Queued.sessions g.J.Queued.capacity c.refresh.new.self c.args.session.now c.place-recalled.ensures.legal c.place-recalled.ensures.own (Refreshed (Ok tt)) (returns-in-Ok-clause-goes g c)

pub returns-in-Err-clause-goes : goal.returns-in-Err-clause-goes
returns-in-Err-clause-goes g c =
    let told = c.in-Err.ensures in
    (c.in-Err.fault, c.call_fault.ensures, look_refused g.J.Naming.base g.J.Opening.config g.J.Queued.sessions g.J.Queued.capacity _ _ c.in-Err.fault told.refused (λ lost. same_fault (told.lost.1 lost)) (λ is. told.lost.0 (ap Err is)) told.kept)

pub returns-in-Err-clause-learns : goal.returns-in-Err-clause-learns
returns-in-Err-clause-learns g c = learns_of g.J.Naming.base g.J.Opening.config g.J.Queued.sessions g.J.Queued.capacity c.refresh.new.self c.args.session.now c.place-recalled.ensures.legal c.place-recalled.ensures.own (Refreshed (Err c.call_fault.result)) (returns-in-Err-clause-goes g c)
