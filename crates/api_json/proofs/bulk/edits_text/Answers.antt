use Rattle.std.proofs.Common.{◌++◌, ℕ, List, [], ◌∷◌, map, ap, subst}
use Rattle.std.proofs.lemmas.Result.{IfOk-weaker}
use Rattle.model.specs.Command as model
use Rattle.serde_json.specs.Data.{Data}
use Rattle.api_json.specs.Bulk.{edits_data, outcome_data}
use Rattle.api_json.specs.List.{IsListAfter}
use Rattle.api_json.proofs.BulkLists.{fewer_remain, none_remain, zip-turn, zip-done}
use Rattle.api_json.proofs.bulk.edits_text.Goals as goal

pub loop-edit-preserved : goal.loop-edit-preserved
loop-edit-preserved c =
    let turn = zip-turn c.loop-edit.edit-iterator c.next.new.self c.next.result (c.in-Some.edit, c.in-Some.outcome) c.in-Some.is c.next.ensures.steps in
    let Pushed : model.Edit → Type 0 =
    λ e. (before : List ℕ) (items : List Data) → IsListAfter before c.loop-edit.list items
    → IsListAfter before c.push_outcome.new.list (items ++ outcome_data e.id c.in-Some.outcome.now ∷ []) in
    fewer_remain c.loop-edit.list c.push_outcome.new.list _ _ _ _ c.loop-edit.invariant
    (ap (map (λ w. outcome_data w.0.id w.1)) turn) (subst Pushed c.edit.view_is c.in_ok-push_outcome.ensures)

pub returns : goal.returns
returns c =
    let done = zip-done c.loop-edit.edit-iterator c.next.new.self c.next.result c.in-None.is c.next.ensures.steps in
    let whole = none_remain c.loop-edit.list _ _ c.loop-edit.invariant (ap (map (λ w. outcome_data w.0.id w.1)) done) in
    IfOk-weaker c.finish.result _ _ (λ text h. h [] (edits_data c.args.edits.now c.args.outcomes.now) whole) c.finish.ensures
