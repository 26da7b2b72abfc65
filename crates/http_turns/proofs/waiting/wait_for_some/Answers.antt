use Rattle.std.proofs.Common.{◌≡◌, ℕ, [], Bool, true, false, Ok, Err, max, refl, ap, ◌∙◌, subst, arith}
use Rattle.std.specs.Prelude.{Result}
use Rattle.session_api.specs.SessionCall.{SessionCall}
use Rattle.http_turns.specs.CallsOfRequest.{WaitsTurn}
use Rattle.session_api.specs.declared.fault.CallFault.{CallFault}
use Rattle.http_turns.proofs.Waits.{Passed, enough_turns, last_turn, one_more_turn}
use Rattle.http_turns.proofs.waiting.wait_for_some.Goals as goal

pub loop-turn-init : goal.loop-turn-init
loop-turn-init g c = ([], refl, refl)

pub loop-turn-preserved : goal.loop-turn-preserved
loop-turn-preserved g c =
    let none : (let r : Result Bool CallFault = Ok c.in-Ok-false.field-0 in r ≡ Ok false) = ap Ok c.in-Ok-false.field-0-test in
    one_more_turn g.S.Viewer.goes g.S.Viewer.known c.args.cursor c.args.ids.now _ _ _ _ c.loop-turn.invariant
    (subst (λ (r : Result Bool CallFault). (call : SessionCall) × WaitsTurn g.S.Viewer.goes g.S.Viewer.known c.args.cursor c.args.ids.now c.loop-turn.session call c.wait_a_turn.new.session r) none c.in-Ok-false.ensures)

pub returns-in-Ok-true : goal.returns-in-Ok-true
returns-in-Ok-true g c =
    let found : (let r : Result Bool CallFault = Ok c.in-Ok-true.field-0 in r ≡ Ok true) = ap Ok c.in-Ok-true.field-0-test in
    let turn = subst (λ (r : Result Bool CallFault). (call : SessionCall) × WaitsTurn g.S.Viewer.goes g.S.Viewer.known c.args.cursor c.args.ids.now c.loop-turn.session call c.wait_a_turn.new.session r) found c.in-Ok-true.ensures in
    let turns : c.setting.inside.turns ≡ c.args.setting.now = c.setting.view_is in
    let most = c.max-turn-end.ensures ∙ ap (λ (n : ℕ). max n 1) turns in
    last_turn g.S.Viewer.goes g.S.Viewer.known c.args.cursor c.args.ids.now c.loop-turn._turn (max c.args.setting.now 1) c.args.session.now c.loop-turn.session c.wait_a_turn.new.session (Ok true) (omega (arith, c.loop-turn-test.true, most)) c.loop-turn.invariant turn (λ is. cc)

pub returns-in-Err : goal.returns-in-Err
returns-in-Err g c =
    let turns : c.setting.inside.turns ≡ c.args.setting.now = c.setting.view_is in
    let most = c.max-turn-end.ensures ∙ ap (λ (n : ℕ). max n 1) turns in
    last_turn g.S.Viewer.goes g.S.Viewer.known c.args.cursor c.args.ids.now c.loop-turn._turn (max c.args.setting.now 1) c.args.session.now c.loop-turn.session c.wait_a_turn.new.session (Err c.in-Err.fault) (omega (arith, c.loop-turn-test.true, most)) c.loop-turn.invariant c.in-Err.ensures (λ is. cc)

pub returns : goal.returns
returns g c =
    let turns : c.setting.inside.turns ≡ c.args.setting.now = c.setting.view_is in
    let most = c.max-turn-end.ensures ∙ ap (λ (n : ℕ). max n 1) turns in
    let all : c.loop-turn._turn ≡ max c.args.setting.now 1 = omega (arith, c.loop-turn-test.false, c.loop-turn.auto, most) in
    enough_turns g.S.Viewer.goes g.S.Viewer.known c.args.cursor c.args.ids.now (max c.args.setting.now 1) c.args.session.now c.loop-turn.session
    (subst (λ (n : ℕ). Passed g.S.Viewer.goes g.S.Viewer.known c.args.cursor c.args.ids.now n c.args.session.now c.loop-turn.session) all c.loop-turn.invariant)
