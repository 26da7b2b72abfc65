use Rattle.std.proofs.Common.{Ok, Err, ap, arith}
use Rattle.model.specs.Command.{Compact}
use Rattle.session_api.specs.SessionCall.{Wrote}
use Rattle.session_calls.proofs.Sessions.{compaction_refused, kept_of, learns_of, same_fault}
use Rattle.session_calls.proofs.calls.compact.Goals as goal

pub returns-in-Ok-clause-goes : goal.returns-in-Ok-clause-goes
returns-in-Ok-clause-goes g c =
    let told = c.in-Ok.ensures in
    (_, ap (λ r. r.place) c.receipt.view_is, told.receipt, kept_of c.args.session.now.lost told.for_ever, omega (arith, told.pushes))

pub returns-in-Ok-clause-learns : goal.returns-in-Ok-clause-learns
returns-in-Ok-clause-learns g c = learns_of g.J.Naming.base g.J.Opening.config g.J.Queued.sessions g.J.Queued.capacity c.compact.new.self c.args.session.now c.place-recalled.ensures.legal c.place-recalled.ensures.own (Wrote Compact (Ok c.receipt.inside.place)) (returns-in-Ok-clause-goes g c)

pub returns-in-Err-clause-goes : goal.returns-in-Err-clause-goes
returns-in-Err-clause-goes g c =
    let told = c.in-Err.ensures in
    let why = c.in-Err.fault in
    let refused = compaction_refused g.J.Naming.base g.J.Opening.config g.J.Queued.sessions g.J.Queued.capacity c.args.session.now c.compact.new.self why (λ is. told.memory (ap Err is)) (λ is. told.behind (ap Err is)) (λ is. told.tried (ap Err is)) (λ is. told.overrun (ap Err is)) (λ is. told.entry_refused (ap Err is))
    (λ is. told.full (ap Err is)) (λ is. told.when_full (ap Err is)) (λ is. told.lost (ap Err is)) told.refused in (
      why,
      c.call_fault.ensures,
      (refused, told.pushes),
      (λ lost. (same_fault (told.for_ever lost), told.for_ever_same lost)),
    )

pub returns-in-Err-clause-learns : goal.returns-in-Err-clause-learns
returns-in-Err-clause-learns g c = learns_of g.J.Naming.base g.J.Opening.config g.J.Queued.sessions g.J.Queued.capacity c.compact.new.self c.args.session.now c.place-recalled.ensures.legal c.place-recalled.ensures.own (Wrote Compact (Err c.call_fault.result)) (returns-in-Err-clause-goes g c)
