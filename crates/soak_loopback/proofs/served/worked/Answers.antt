use denote.Param.{param}
use denote.Param.Send.{sendable}
use Rattle.std.proofs.Common.{ℕ, ◌≤◌, ◌∙◌, ap, arith, length, subst, sym}
use Rattle.history_lock.proofs.Lending.{no_more}
use Rattle.http_front.proofs.Servers.{lent_back}
use Rattle.session_calls.proofs.Crossing.{opened-send, shared_session-send}
use Rattle.soak_loopback.proofs.served.worked.Goals as goal

pub work_of-told-requires-send-S : goal.work_of-told-requires-send-S
work_of-told-requires-send-S g c κs within = search (shared_session-send (param 0 g.row.J) g.J.Queued g.J.Opening g.J.Naming, sendable) depth 20

pub work_of-told-requires-send-S-Opened : goal.work_of-told-requires-send-S-Opened
work_of-told-requires-send-S-Opened g c κs within = search (opened-send, sendable) depth 20

pub all_sessions-requires : goal.all_sessions-requires
all_sessions-requires g c =
    let shared = c.in-Ok-all_shared.sessions in
    let few : length shared.items ≤ c.len.result = omega (arith, ap length c.in-Ok-all_shared.ensures.same, c.in-Ok.sessions.ok.0, c.len.ensures) in
    record { empty = c.in-Ok-with_capacity.ensures.items; room = lent_back shared.items _ shared.len _ shared.ok.0 (omega (arith, few, c.in-Ok-with_capacity.ensures.capacity)) }

pub close-closed-requires : goal.close-closed-requires
close-closed-requires g c =
    let lent = c.as_mut_slice in
    let shared = c.in-Ok-all_shared.sessions in
    record {
      all = subst (λ (count : ℕ). count ≤ g.J.Queued.sessions) (sym (ap length c.all_sessions.ensures.same))
          (no_more shared.items lent.result.now _ shared.len _ _ (c.in-Ok-all_shared.ensures.same ∙ c.in-Ok.ensures.sessions) c.requires.named.sessions_is lent.ensures.value lent.ensures.len);
    }
