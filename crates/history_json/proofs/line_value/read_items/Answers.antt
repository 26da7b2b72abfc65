use Rattle.std.proofs.Common.{◌≡◌, [], ◌∷◌, length, All, Some, sym, ap, ◌∙◌, subst, arith}
use Rattle.std.specs.Vec.Iter.{into_iter_items, into_iter_len}
use Rattle.std.proofs.lemmas.List.{nil_from_length}
use Rattle.std.proofs.lemmas.List.Elements.{All-append, All-cons, All-nil}
use Rattle.history_json.proofs.Rests.{Rest, rest-next, rest-none, rest-last}
use Rattle.history_json.proofs.line_value.read_items.Goals as goal

pub loop-value-preserved : goal.loop-value-preserved
loop-value-preserved g c =
    let steps = c.in-Some.ensures.steps in
    let item = c.in-Some-2.item in
    let counted = ap length steps.0 in
    let len : into_iter_len c.next.new.self ≡ length (into_iter_items c.next.new.self) = (let lens = c.loop-value.invariant.2 in let one = steps.1 in omega (arith, counted, lens, one)) in
    let of = g.T.LineValue.data_of in
    let keeps = g.T.LineValue.is_within in
    let here : keeps item = rw c.in-Some-2.is at c.in_ok-item.ensures.within in
    let tells : (z : _) → keeps z → c.in-Some.value ≡ of z → Some item ≡ Some z = λ z p e. sym c.in-Some-2.is ∙ c.in_ok-item.ensures.found z p e in
    let pushed = c.in_ok-push.ensures.items in (
      tt,
      tt,
      len,
      subst (All keeps) (sym pushed) (All-append keeps c.loop-value.found.items (item ∷ []) c.loop-value.invariant.3 (All-cons keeps item [] here (All-nil keeps))),
      λ items within is. subst (λ found. Rest of keeps (into_iter_items c.next.new.self) found items) (sym pushed)
          (rest-next of keeps c.in-Some.value (into_iter_items c.next.new.self) c.loop-value.found.items items item tells
          (subst (λ left. Rest of keeps left c.loop-value.found.items items) steps.0 (c.loop-value.invariant.4 items within is))),
    )

pub returns-in_default-clause-found : goal.returns-in_default-clause-found
returns-in_default-clause-found g c = λ items within is.
    let steps = c.in-Some.ensures.steps in
    let of = g.T.LineValue.data_of in
    let keeps = g.T.LineValue.is_within in
    absurd (rest-none of keeps c.in-Some.value (into_iter_items c.next.new.self) c.loop-value.found.items items
    (λ z p e. sym c.in_default.is ∙ c.in_ok-item.ensures.found z p e)
    (subst (λ left. Rest of keeps left c.loop-value.found.items items) steps.0 (c.loop-value.invariant.4 items within is)))

pub returns-clause-found : goal.returns-clause-found
returns-clause-found g c = λ items within is.
    let of = g.T.LineValue.data_of in
    let keeps = g.T.LineValue.is_within in
    let left = into_iter_items c.loop-value.value-iterator in
    let steps : into_iter_len c.loop-value.value-iterator ≡ 0 = c.in-None.ensures.steps.0 in
    let none : left ≡ [] = nil_from_length left (sym c.loop-value.invariant.2 ∙ steps) in
    ap Some (rest-last of keeps c.loop-value.found.items items
    (subst (λ xs. Rest of keeps xs c.loop-value.found.items items) none (c.loop-value.invariant.4 items within is)))
