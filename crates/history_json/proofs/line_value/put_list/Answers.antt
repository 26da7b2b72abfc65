use Rattle.std.proofs.Common.{[], ◌∷◌, ◌++◌, false, map, take, string_bytes, sym, ap, ◌∙◌, arith}
use Rattle.std.proofs.lemmas.List.{map_more, take_all}
use Rattle.std.proofs.lemmas.Result.{on_ok_weaker}
use Rattle.serde_json.specs.Data.{array}
use Rattle.serde_json.specs.View.{items_of}
use Rattle.serde_json.specs.Written.{compact_text}
use Rattle.api_json.specs.List.{stands_after}
use Rattle.api_json.proofs.ListTexts.{one_more, stands_after-push}
use Rattle.history_json.proofs.Lists.{closed}
use Rattle.history_json.proofs.Parts.{pushed}
use Rattle.history_json.proofs.line_value.put_list.Goals as goal

pub loop-item-preserved : goal.loop-item-preserved
loop-item-preserved g c =
    let of = g.T.LineValue.data_of in
    let items = c.args.items.now in
    let item = c.item-item.result in
    let front = map of (take c.loop-item.item-index items) in
    let more = map_more of items c.loop-item.item-index item (omega arith) ∙ ap (λ x. front ++ of x ∷ []) (sym c.item-item.is) in
    let told = c.in_ok-put.ensures ∙ ap (λ t. t ++ compact_text (of item)) c.in_ok-put_comma.ensures in
    record {
      text = one_more (string_bytes c.args.text.now) _ _ c.loop-item.later front _ (of item) c.loop-item.invariant.text c.loop-item.invariant.later told more;
      later = sym (ap (stands_after false) more ∙ stands_after-push false front (of item));
    }

pub returns : goal.returns
returns g c =
    let of = g.T.LineValue.data_of in
    let before = string_bytes c.args.text.now in
    let listed = map of (take c.loop-item.item-index c.args.items.now) in
    let whole = take_all c.loop-item.item-index c.args.items.now c.loop-item-test.false in
    on_ok_weaker c.push_str-2.result
    (λ h. h ∙ ap (λ t. t ++ 93 ∷ []) c.loop-item.invariant.text ∙ closed before listed
    ∙ ap (λ xs. before ++ compact_text (array (items_of (map of xs)))) whole)
    (pushed c.push_str-2.result _ _ _ c.push_str-2.ensures.bytes)
