use Rattle.std.proofs.Common.{◌++◌, map, string_bytes, ap, ◌∙◌, arith}
use Rattle.std.proofs.lemmas.List.{map_more, take_all}
use Rattle.std.proofs.lemmas.Result.{IfOk-weaker}
use Rattle.serde_json.specs.Data.{array}
use Rattle.serde_json.specs.View.{items_of}
use Rattle.serde_json.specs.Written.{compact_text}
use Rattle.api_json.proofs.list.append_list.Goals as goal

pub loop-item-preserved : goal.loop-item-preserved
loop-item-preserved g c of tells =
    let told = c.as_str.ensures.value ∙ tells _ _ c.in_ok-told.ensures ∙ ap (λ x. compact_text (of x)) c.item-item.is in
    c.in_ok-push_text.ensures _ _ _ _ (c.loop-item.invariant of tells) told (map_more of c.args.items.now c.loop-item.item-index c.item-item.result (omega arith))

pub returns : goal.returns
returns g c of tells =
    let whole = take_all c.loop-item.item-index c.args.items.now c.loop-item-test.false in
    IfOk-weaker c.finish.result _ _
    (λ longer h. h _ _ (c.loop-item.invariant of tells) ∙ ap (λ items. string_bytes c.args.text ++ compact_text (array (items_of (map of items)))) whole)
    c.finish.ensures
