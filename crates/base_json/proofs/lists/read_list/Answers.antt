use Rattle.std.proofs.Common.{◌≡◌, [], ◌∷◌, ◌++◌, map, true, sym, ap, subst, ◌∙◌}
use Rattle.std.proofs.lemmas.List.{map-append}
use Rattle.base_json.proofs.ListsLeft.{Left, Next, left-ended, left-next}
use Rattle.base_json.proofs.lists.read_list.Goals as goal

pub returns-in-Some-after : goal.returns-in-Some-after
returns-in-Some-after g c = record {
  found = λ items rest within is.
      left-ended g.T.ListItem.data_of g.T.ListItem.is_within c.loop-rest.later c.loop-rest.left.now (map g.T.ListItem.shown c.loop-rest.items.items) items rest c.in-Some-after.rest.now
      (c.loop-rest.invariant items rest within is) c.in-Some-after.ensures.is;
}

pub returns-in_default-2 : goal.returns-in_default-2
returns-in_default-2 g c = record {
  found = λ items rest within is.
      let next : Next g.T.ListItem.data_of g.T.ListItem.is_within c.loop-rest.later c.loop-rest.left.now (map g.T.ListItem.shown c.loop-rest.items.items) items rest =
      left-next g.T.ListItem.data_of g.T.ListItem.is_within c.loop-rest.later c.loop-rest.left.now (map g.T.ListItem.shown c.loop-rest.items.items) items rest
      (c.loop-rest.invariant items rest within is) (λ behind bracket. (let none = c.in_default-after.ensures.found behind bracket in absurd (cc))) in
      rw c.in_default-2.is at (c.in_ok-item.ensures.found next.item next.behind next.keeps next.piece next.text);
}

pub loop-rest-preserved : goal.loop-rest-preserved
loop-rest-preserved g c = λ items rest within is.
    let next : Next g.T.ListItem.data_of g.T.ListItem.is_within c.loop-rest.later c.loop-rest.left.now (map g.T.ListItem.shown c.loop-rest.items.items) items rest =
    left-next g.T.ListItem.data_of g.T.ListItem.is_within c.loop-rest.later c.loop-rest.left.now (map g.T.ListItem.shown c.loop-rest.items.items) items rest
    (c.loop-rest.invariant items rest within is) (λ behind bracket. (let none = c.in_default-after.ensures.found behind bracket in absurd (cc))) in
    let found = rw c.in-Some-2.is at (c.in_ok-item.ensures.found next.item next.behind next.keeps next.piece next.text) in
    let pushed : map g.T.ListItem.shown c.push.new.self.items ≡ map g.T.ListItem.shown c.loop-rest.items.items ++ next.item ∷ [] =
    ap (map g.T.ListItem.shown) c.in_ok-push.ensures.items ∙ map-append g.T.ListItem.shown c.loop-rest.items.items (c.in-Some-2.item ∷ [])
    ∙ ap (λ y. map g.T.ListItem.shown c.loop-rest.items.items ++ y ∷ []) found.0 in
    subst (λ t. Left g.T.ListItem.data_of g.T.ListItem.is_within true t (map g.T.ListItem.shown c.push.new.self.items) items rest) (sym found.1)
    (subst (λ ys. Left g.T.ListItem.data_of g.T.ListItem.is_within true next.behind ys items rest) (sym pushed) next.more)
