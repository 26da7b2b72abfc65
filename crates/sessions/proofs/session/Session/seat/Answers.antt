use Rattle.std.proofs.Common.{ap, length, arith}
use Rattle.model.specs.History.{Chronicle}
use Rattle.version_log.specs.Histories.{newest}
use Rattle.sessions.proofs.Receipts.{few_calls}
use Rattle.sessions.proofs.session.Session.seat.Goals as goal

pub overflow_add-self-inside : goal.overflow_add-self-inside
overflow_add-self-inside g c =
    let s = c.self.inside in
    omega (arith, c.self.invariant.counted, ap length c.self.invariant.own, few_calls s.number (newest s.latest), ap (λ (v : Chronicle). length v.entries) c.version.ensures.newest, c.place-recalled.ensures.history.few)
