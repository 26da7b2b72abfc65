use Rattle.std.proofs.Common.{Ok, Err, ap}
use Rattle.session_api.specs.SessionCall.{Waited}
use Rattle.session_calls.proofs.Sessions.{kept_of, learns_of, same_fault, wait_refused}
use Rattle.session_calls.proofs.calls.wait_for.Goals as goal

pub returns-in-Ok-clause-goes : goal.returns-in-Ok-clause-goes
returns-in-Ok-clause-goes g c =
    let told = c.in-Ok.ensures in
    (told.looks, kept_of c.args.session.now.lost (λ lost. told.lost.1 lost), told.past, (λ is. told.looked (ap Ok is)))

pub returns-in-Ok-clause-learns : goal.returns-in-Ok-clause-learns
returns-in-Ok-clause-learns g c = learns_of g.J.Naming.base g.J.Opening.config g.J.Queued.sessions g.J.Queued.capacity c.wait_past.new.self c.args.session.now c.place-recalled.ensures.legal c.place-recalled.ensures.own (Waited c.args.seq c.args.turns (Ok c.in-Ok.past)) (returns-in-Ok-clause-goes g c)

pub returns-in-Err-clause-goes : goal.returns-in-Err-clause-goes
returns-in-Err-clause-goes g c =
    let told = c.in-Err.ensures in (
      c.in-Err.fault,
      c.call_fault.ensures,
      wait_refused g.J.Naming.base g.J.Opening.config g.J.Queued.sessions g.J.Queued.capacity _ _ c.in-Err.fault told.refused (λ lost. same_fault (told.lost.1 lost)) (λ is. told.lost.0 (ap Err is)) (λ is. told.lost_same (told.lost.0 (ap Err is))) (λ is. told.refused_looks (ap Err is)),
    )

pub returns-in-Err-clause-learns : goal.returns-in-Err-clause-learns
returns-in-Err-clause-learns g c = learns_of g.J.Naming.base g.J.Opening.config g.J.Queued.sessions g.J.Queued.capacity c.wait_past.new.self c.args.session.now c.place-recalled.ensures.legal c.place-recalled.ensures.own (Waited c.args.seq c.args.turns (Err c.call_fault.result)) (returns-in-Err-clause-goes g c)
