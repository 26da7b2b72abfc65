use Rattle.std.proofs.Common.{◌≡◌, [], ◌∷◌, length, map, Some, sym, ap, ◌∙◌, subst, arith}
use Rattle.std.specs.Vec.Iter.{into_iter_items, into_iter_len}
use Rattle.std.proofs.lemmas.List.{map-append, nil_from_length}
use Rattle.history_json.proofs.Rests.{Rest, rest-next, rest-none, rest-last}
use Rattle.base_json.proofs.each.read_items.Goals as goal

pub loop-value-preserved : goal.loop-value-preserved
loop-value-preserved g c =
    let steps = c.in-Some.ensures.steps in
    let item = c.in-Some-2.item in
    let counted = ap length steps.0 in
    let len : into_iter_len c.next.new.self ≡ length (into_iter_items c.next.new.self) = (let lens = c.loop-value.invariant.2 in let one = steps.1 in omega (arith, counted, lens, one)) in
    let of = g.T.ListItem.data_of in
    let keeps = g.T.ListItem.is_within in
    let shown = g.T.ListItem.shown in
    let tells : (z : _) → keeps z → c.in-Some.value ≡ of z → Some (shown item) ≡ Some z = λ z p e. rw c.in-Some-2.is at (c.in_ok-item.ensures z p e) in
    let pushed = ap (map shown) c.in_ok-push.ensures.items ∙ map-append shown c.loop-value.found.items (item ∷ []) in (
      tt,
      tt,
      len,
      λ items within is. subst (λ found. Rest of keeps (into_iter_items c.next.new.self) found items) (sym pushed)
          (rest-next of keeps c.in-Some.value (into_iter_items c.next.new.self) (map shown c.loop-value.found.items) items (shown item) tells
          (subst (λ left. Rest of keeps left (map shown c.loop-value.found.items) items) steps.0 (c.loop-value.invariant.3 items within is))),
    )

pub returns-in_default : goal.returns-in_default
returns-in_default g c = λ items within is.
    let steps = c.in-Some.ensures.steps in
    let of = g.T.ListItem.data_of in
    let keeps = g.T.ListItem.is_within in
    let shown = g.T.ListItem.shown in
    absurd (rest-none of keeps c.in-Some.value (into_iter_items c.next.new.self) (map shown c.loop-value.found.items) items
    (λ z p e. rw c.in_default.is at (c.in_ok-item.ensures z p e))
    (subst (λ left. Rest of keeps left (map shown c.loop-value.found.items) items) steps.0 (c.loop-value.invariant.3 items within is)))

pub returns : goal.returns
returns g c = λ items within is.
    let of = g.T.ListItem.data_of in
    let keeps = g.T.ListItem.is_within in
    let shown = g.T.ListItem.shown in
    let left = into_iter_items c.loop-value.value-iterator in
    let steps : into_iter_len c.loop-value.value-iterator ≡ 0 = c.in-None.ensures.steps.0 in
    let none : left ≡ [] = nil_from_length left (sym c.loop-value.invariant.2 ∙ steps) in
    ap Some (rest-last of keeps (map shown c.loop-value.found.items) items
    (subst (λ xs. Rest of keeps xs (map shown c.loop-value.found.items) items) none (c.loop-value.invariant.3 items within is)))
