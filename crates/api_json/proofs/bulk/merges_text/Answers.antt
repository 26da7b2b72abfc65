use Rattle.std.proofs.Common.{◌++◌, ℕ, List, [], ap, subst}
use Rattle.std.proofs.lemmas.Result.{IfOk-weaker}
use Rattle.std.specs.List.{flat_map}
use Rattle.model.specs.Command.{Id}
use Rattle.serde_json.specs.Data.{Data}
use Rattle.api_json.specs.Bulk.{merges_data, refusals_of}
use Rattle.api_json.specs.List.{IsListAfter}
use Rattle.api_json.proofs.BulkLists.{fewer_remain, none_remain, zip-turn, zip-done}
use Rattle.api_json.proofs.bulk.merges_text.Goals as goal

pub loop-merge-preserved : goal.loop-merge-preserved
loop-merge-preserved c =
    let turn = zip-turn c.loop-merge.merge-iterator c.next.new.self c.next.result (c.in-Some.merge, c.in-Some.outcome) c.in-Some.is c.next.ensures.steps in
    let Pushed : Id → Type 0 =
    λ id. (before : List ℕ) (items : List Data) → IsListAfter before c.loop-merge.list items
    → IsListAfter before c.push_refusal.new.list (items ++ refusals_of id c.in-Some.outcome.now) in
    fewer_remain c.loop-merge.list c.push_refusal.new.list _ _ _ _ c.loop-merge.invariant
    (ap (flat_map (λ w. refusals_of w.0.id w.1)) turn) (subst Pushed c.id.ensures.id c.in_ok-push_refusal.ensures)

pub returns : goal.returns
returns c =
    let done = zip-done c.loop-merge.merge-iterator c.next.new.self c.next.result c.in-None.is c.next.ensures.steps in
    let whole = none_remain c.loop-merge.list _ _ c.loop-merge.invariant (ap (flat_map (λ w. refusals_of w.0.id w.1)) done) in
    IfOk-weaker c.finish.result _ _ (λ text h. h [] (merges_data c.args.merges.now c.args.outcomes.now) whole) c.finish.ensures
