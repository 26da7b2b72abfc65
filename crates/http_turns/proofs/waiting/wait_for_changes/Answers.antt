use Rattle.std.proofs.Common.{◌≡◌, ℕ, List, Option, None, Some, max, refl, sym, subst}
use Rattle.model.specs.Command.{Id}
use Rattle.session_api.specs.SessionCall.{SessionCall, Waited}
use Rattle.http_turns.specs.CallsOfRequest.{WaitsFor, WaitsTurns}
use Rattle.session_api.specs.Learns.{Makes}
use Rattle.http_turns.proofs.waiting.wait_for_changes.Goals as goal

pub returns-in-Some : goal.returns-in-Some
returns-in-Some g c =
    let waits : (calls : List SessionCall) × WaitsTurns g.S.Viewer.goes g.S.Viewer.known (max c.args.setting.now 1) c.args.cursor (Some c.in-Some.field-0) c.args.session.now calls c.wait_for_some.new.session c.wait_for_some.result =
    subst (λ (ids : Option (List Id)). (calls : List SessionCall) × WaitsTurns g.S.Viewer.goes g.S.Viewer.known (max c.args.setting.now 1) c.args.cursor ids c.args.session.now calls c.wait_for_some.new.session c.wait_for_some.result) c.in-Some.is c.wait_for_some.ensures in
    subst (λ (ids : Option (List Id)). (calls : List SessionCall) × WaitsFor g.S.Viewer.goes g.S.Viewer.known c.args.setting.now c.args.past c.args.cursor ids c.args.session.now calls c.wait_for_some.new.session c.wait_for_some.result) (sym c.in-Some.is) waits

pub returns-in-None : goal.returns-in-None
returns-in-None g c =
    let told = c.wait_past.ensures in
    let turns : c.setting.inside.turns ≡ c.args.setting.now = c.setting.view_is in
    let makes : Makes g.S.Viewer.goes g.S.Viewer.known c.args.session.now (Waited c.args.past c.setting.inside.turns c.wait_past.result) c.wait_past.new.self = record { made = told.goes; learns = told.learns } in
    subst (λ (ids : Option (List Id)). (calls : List SessionCall) × WaitsFor g.S.Viewer.goes g.S.Viewer.known c.args.setting.now c.args.past c.args.cursor ids c.args.session.now calls c.wait_past.new.self c.wait_past.result) (sym c.in-None.is)
    (subst (λ (n : ℕ). (calls : List SessionCall) × WaitsFor g.S.Viewer.goes g.S.Viewer.known n c.args.past c.args.cursor None c.args.session.now calls c.wait_past.new.self c.wait_past.result) turns (_, (refl, makes)))
