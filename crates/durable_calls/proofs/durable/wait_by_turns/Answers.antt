use Rattle.std.proofs.Common.{◌+◌, Bool, Ok, subst, arith}
use Rattle.session_api.specs.Learns.{Learns}
use Rattle.session_api.specs.SessionCall.{Waited}
use Rattle.durable_calls.proofs.Waits.{at_end, no_turn, one_more}
use Rattle.durable_calls.proofs.durable.wait_by_turns.Goals as goal

pub loop-turn-init : goal.loop-turn-init
loop-turn-init g c = no_turn g.S.Viewer.goes g.S.Viewer.known c.args.seq c.args.session.now c.place-recalled.ensures.legal

pub loop-turn-preserved : goal.loop-turn-preserved
loop-turn-preserved g c =
    let none = c.in-Ok-false.field-0-test in
    one_more g.S.Viewer.goes g.S.Viewer.known c.args.seq c.loop-turn._turn c.args.session.now c.loop-turn.session c.wait_past.new.self c.loop-turn.invariant
    (subst (λ (past : Bool). g.S.Viewer.goes c.loop-turn.session (Waited c.args.seq 1 (Ok past)) c.wait_past.new.self) none c.in-Ok-false.ensures.goes)
    (subst (λ (past : Bool). Learns (g.S.Viewer.known c.loop-turn.session) (Waited c.args.seq 1 (Ok past)) (g.S.Viewer.known c.wait_past.new.self)) none c.in-Ok-false.ensures.learns)

pub returns-then-is_over-clause-waits : goal.returns-then-is_over-clause-waits
returns-then-is_over-clause-waits g c =
    let none = c.in-Ok-false.field-0-test in
    let passed = one_more g.S.Viewer.goes g.S.Viewer.known c.args.seq c.loop-turn._turn c.args.session.now c.loop-turn.session c.wait_past.new.self c.loop-turn.invariant
    (subst (λ (past : Bool). g.S.Viewer.goes c.loop-turn.session (Waited c.args.seq 1 (Ok past)) c.wait_past.new.self) none c.in-Ok-false.ensures.goes)
    (subst (λ (past : Bool). Learns (g.S.Viewer.known c.loop-turn.session) (Waited c.args.seq 1 (Ok past)) (g.S.Viewer.known c.wait_past.new.self)) none c.in-Ok-false.ensures.learns) in
    (at_end g.S.Viewer.goes g.S.Viewer.known c.args.seq (c.loop-turn._turn + 1) c.args.turns c.args.session.now c.wait_past.new.self (omega arith) passed).0
