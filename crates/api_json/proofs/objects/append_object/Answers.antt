use Rattle.std.proofs.Common.{[], ◌∷◌, ◌++◌, map, take, string_bytes, sym, ap, subst, ◌∙◌, arith}
use Rattle.std.proofs.lemmas.List.{map_more, take_all}
use Rattle.serde_json.specs.Data.{object}
use Rattle.serde_json.specs.Written.{compact_text}
use Rattle.document_json.specs.MembersText.{IsMembersAfter}
use Rattle.api_json.specs.Objects.{members_from}
use Rattle.api_json.proofs.ObjectTexts.{members_from-push, closed}
use Rattle.api_json.proofs.objects.append_object.Goals as goal

pub loop-item-preserved : goal.loop-item-preserved
loop-item-preserved g c of tells =
    let items = c.args.items.now in
    let item = c.item-item.result in
    let front = map of (take c.loop-item.item-index items) in
    let more = map_more of items c.loop-item.item-index item (omega arith) in
    subst (λ members. IsMembersAfter (string_bytes c.args.text ++ 123 ∷ []) c.push.new.arg2 members)
    (members_from-push front (of item) ∙ ap (λ x. members_from (front ++ of x ∷ [])) c.item-item.is ∙ ap members_from (sym more))
    (tells _ _ _ _ c.in_ok-push.ensures (string_bytes c.args.text ++ 123 ∷ []) (members_from front) (c.loop-item.invariant of tells))

pub returns : goal.returns
returns g c of tells =
    let before = string_bytes c.args.text in
    let listed = members_from (map of (take c.loop-item.item-index c.args.items.now)) in
    let whole = take_all c.loop-item.item-index c.args.items.now c.loop-item-test.false in
    c.in_ok-push_str-2.ensures.bytes
    ∙ ap (λ t. t ++ 125 ∷ []) (c.finish-text.ensures (before ++ 123 ∷ []) listed (c.loop-item.invariant of tells))
    ∙ closed before listed
    ∙ ap (λ items. before ++ compact_text (object (members_from (map of items)))) whole
