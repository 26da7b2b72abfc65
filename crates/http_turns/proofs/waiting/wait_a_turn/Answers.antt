use Rattle.std.proofs.Common.{Ok, Err, refl}
use Rattle.http_turns.proofs.Waits.{found_at, found_none, turn_by}
use Rattle.http_turns.proofs.waiting.wait_a_turn.Goals as goal

pub returns-in-Ok-true : goal.returns-in-Ok-true
returns-in-Ok-true g c =
    let told = c.in-Ok-true.ensures in
    let seen = c.update_seq-seen.result in
    let is = c.update_seq-seen.ensures.number in
    turn_by g.S.Viewer.goes g.S.Viewer.known _ _ _ seen (Ok c.in-Ok-true.field-0) _ _ is (record { made = told.goes; learns = told.learns })
    (found_at g.S.Viewer.goes g.S.Viewer.known _ c.args.ids.now _ seen c.in-Ok-true.field-0 _ c.max.result c.has_changes.result is c.max.ensures c.has_changes.ensures c.in-Ok-true.field-0-test)

pub returns-in-Ok-false : goal.returns-in-Ok-false
returns-in-Ok-false g c =
    let told = c.in-Ok-false.ensures in
    turn_by g.S.Viewer.goes g.S.Viewer.known _ _ _ c.update_seq-seen.result (Ok c.in-Ok-false.field-0) _ _ c.update_seq-seen.ensures.number (record { made = told.goes; learns = told.learns })
    (found_none g.S.Viewer.goes g.S.Viewer.known _ _ _ _ c.in-Ok-false.field-0 c.in-Ok-false.field-0-test)

pub returns-in-Err : goal.returns-in-Err
returns-in-Err g c =
    let told = c.in-Err.ensures in
    turn_by g.S.Viewer.goes g.S.Viewer.known _ _ _ c.update_seq-seen.result (Err c.in-Err.fault) _ _ c.update_seq-seen.ensures.number (record { made = told.goes; learns = told.learns }) refl
