use Rattle.std.proofs.Common.{Ok, Err, Bool, ap, sym, subst}
use Rattle.session_calls.specs.Sessions.{RefusesWrite}
use Rattle.session_api.specs.SessionCall.{Wrote}
use Rattle.session_calls.proofs.Sessions.{edit_refused, kept_of, learns_of, same_fault}
use Rattle.session_calls.proofs.calls.edit.Goals as goal

pub returns-in-Ok-clause-goes : goal.returns-in-Ok-clause-goes
returns-in-Ok-clause-goes g c =
    let told = c.in-Ok.ensures in
    (_, ap (λ r. r.place) c.receipt.view_is, told.receipt, kept_of c.args.session.now.lost told.for_ever, told.pushes)

pub returns-in-Ok-clause-learns : goal.returns-in-Ok-clause-learns
returns-in-Ok-clause-learns g c = learns_of g.J.Naming.base g.J.Opening.config g.J.Queued.sessions g.J.Queued.capacity c.write.new.self c.args.session.now c.place-recalled.ensures.legal c.place-recalled.ensures.own (Wrote c.args.command (Ok c.receipt.inside.place)) (returns-in-Ok-clause-goes g c)

pub returns-in-Err-clause-goes : goal.returns-in-Err-clause-goes
returns-in-Err-clause-goes g c =
    let told = c.in-Err.ensures in
    let why = c.in-Err.fault in
    let old = c.args.session.now in
    let new = c.write.new.self in
    let refused = edit_refused g.J.Naming.base g.J.Opening.config g.J.Queued.sessions g.J.Queued.capacity old new why (λ is. told.memory (ap Err is)) (λ is. told.busy (ap Err is)) (λ is. told.when_busy (ap Err is)) (λ is. told.full (ap Err is)) (λ is. told.when_full (ap Err is))
    (λ is. told.lost (ap Err is)) told.refused in (
      why,
      c.call_fault.ensures,
      subst (λ (compacts : Bool). RefusesWrite g.J.Naming.base g.J.Opening.config g.J.Queued.sessions g.J.Queued.capacity compacts old why new) (sym c.requires.edit) (refused, told.pushes),
      (λ lost. (same_fault (told.for_ever lost), told.for_ever_same lost)),
    )

pub returns-in-Err-clause-learns : goal.returns-in-Err-clause-learns
returns-in-Err-clause-learns g c = learns_of g.J.Naming.base g.J.Opening.config g.J.Queued.sessions g.J.Queued.capacity c.write.new.self c.args.session.now c.place-recalled.ensures.legal c.place-recalled.ensures.own (Wrote c.args.command (Err c.call_fault.result)) (returns-in-Err-clause-goes g c)
