-- Where the next member of a path becomes the parent of the one before: which small change that is, by what the tree had before the path.
use Rattle.std.specs.Prelude.{◌≡◌, ◌↔◌, ◌⊎◌, ℕ, zero, suc, ◌+◌, true, false, Option, Some, None, refl}
use Rattle.std.proofs.Common.{sym, ap, subst, ◌∙◌, ⊎_elim, inl, inr, arith}
use Rattle.std.proofs.lemmas.Bool.{true≢false}
use Rattle.std.proofs.lemmas.Option.{none-some, same_Some}
use Rattle.model.specs.Map.{get}
use Rattle.model.specs.Revision.{Rev, same_rev}
use Rattle.model.specs.Tree.{Tree, IsForest, has_child, is_leaf, knows, parent_of}
use Rattle.model.proofs.ListLaws.{by_cases}
use Rattle.model.proofs.TreeLaws.{child_of, childless_leaf, is_leaf-childless, knows_child}
use Rattle.revision_runs.specs.declared.run.Run.{Run}
use Rattle.revision_runs.specs.Runs.{RunMap, HangsUnder}
use Rattle.revision_runs.specs.TreeRuns.{IsOnlyChild, IsOneChild, IsWay, IsTop, IsBottom, AreRuns}
use Rattle.revision_runs.specs.Changes.{IsExtended, IsInside, IsLinked, IsNext}
use Rattle.revision_runs.proofs.Climbing.{end_not_only, on_run, same_top, top_not_only, way_last}
use Rattle.revision_runs.proofs.Dues.{child_cases}
use Rattle.revision_runs.proofs.Grafting.{known_same, member_extends, member_known, member_links}
use Rattle.revision_runs.proofs.Moving.{way_join, way_map, whole}

-- ---- runs see no more of a tree than what is known and whose child it is

module _ (t u : Tree) (known : (q : Rev) → knows u q ≡ knows t q) (parents : (q : Rev) → parent_of u q ≡ parent_of t q) where
  only_same : (q x : Rev) → IsOnlyChild t q x → IsOnlyChild u q x
  only_same q x o = record { child = parents x ∙ o.child; only = λ d up. o.only d (sym (parents d) ∙ up) }

  top_same : (r : Rev) → IsTop t r → IsTop u r
  top_same r top = (
    known r ∙ top.0,
    ⊎_elim
        (λ none. inl (parents r ∙ none))
        (λ o. inr (o.0, record { child = parents r ∙ o.1.child; other = o.1.other; sibling = parents o.1.other ∙ o.1.sibling; apart = o.1.apart }))
        top.1,
  )

  top_back : (r : Rev) → IsTop u r → IsTop t r
  top_back r top = (
    sym (known r) ∙ top.0,
    ⊎_elim
        (λ none. inl (sym (parents r) ∙ none))
        (λ o. inr (o.0, record { child = sym (parents r) ∙ o.1.child; other = o.1.other; sibling = sym (parents o.1.other) ∙ o.1.sibling; apart = o.1.apart }))
        top.1,
  )

  leaf_same : (r : Rev) → is_leaf t r ≡ true → is_leaf u r ≡ true
  leaf_same r leaf = let h = (is_leaf-childless t r).0 leaf in (is_leaf-childless u r).1 (known r ∙ h.0, λ d up. h.1 d (sym (parents d) ∙ up))

  bottom_same : (runs : RunMap) (b : Rev) (n : ℕ) → IsBottom t runs b n → IsBottom u runs b n
  bottom_same runs b n x = ⊎_elim (λ l. inl (leaf_same b l.0, l.1)) (λ l. inr l) x

  pub same_runs : (runs : RunMap) → AreRuns t runs → AreRuns u runs
  same_runs runs h = record {
    each = λ top run is. let e = h.each top run is in record {
      at_top = top_same top e.at_top;
      fork = e.fork ∙ sym (parents top);
      steps = e.steps;
      way = way_map t u only_same e.steps run.bottom top e.way;
      low = bottom_same runs run.bottom run.low e.low;
    };
    all = λ r top. h.all r (top_back r top);
  }

-- ---- the run that a revision is in

module _ (t : Tree) (f : IsForest t) (runs : RunMap) (h : AreRuns t runs) where
  -- a revision that is no top is the only child of its parent
  pub step_up : (r : Rev) → knows t r ≡ true → get runs r ≡ None → (p : Rev) × IsOnlyChild t p r
  step_up r k none = at (parent_of t r) refl
    where
      no_top : IsTop t r → ⊥
      no_top top = let x = h.all r top in none-some x.0 (sym none ∙ x.1)

      at : (o : Option Rev) → parent_of t r ≡ o → (p : Rev) × IsOnlyChild t p r
      at None e = absurd (no_top (k, inl e))
      at (Some p) e = ⊎_elim (λ one. absurd (no_top (k, inr (p, one)))) (λ only. (p, only)) (child_cases t p r e)

  -- what is no leaf, and under which no run hangs, has one child
  pub one_below : (p : Rev) → knows t p ≡ true → (is_leaf t p ≡ true → ⊥) → ((d : Rev) → HangsUnder runs p d → ⊥) → (x : Rev) × IsOnlyChild t p x
  one_below p k inner none =
      let c = child_of t p (by_cases (has_child t p) (λ e. e) (λ e. absurd (inner (childless_leaf t p k e)))) in
      ⊎_elim
      (λ one.
      let x = h.all c.child (knows_child t c.child p c.parent, inr (p, one)) in
      absurd (none c.child (record { run = x.0; is = x.1; fork = (h.each c.child x.0 x.1).fork ∙ c.parent })))
      (λ only. (c.child, only))
      (child_cases t p c.child c.parent)

  on_one : (x top : Rev) (run : Run) → IsTop t x → get runs x ≡ Some run → (n : ℕ) → IsWay t n run.bottom top → IsTop t top → x ≡ top
  on_one x top run at_x is n way at_top = let e = h.each x run is in same_top t e.steps n run.bottom x top at_x at_top e.way way

  -- p has one child x, and the way up from it is known
  module _ (p x top : Rev) (only : IsOnlyChild t p x) (above : ℕ) (up : IsWay t above p top) (run : Run) (is : get runs top ≡ Some run) where
    pub inside : IsInside t runs p x top
    inside =
        let on = on_run t f None runs (whole t runs h) x.generation x (knows_child t x p only.child) (omega arith) in
        let e = h.each top run is in
        let w = h.each on.top on.run on.is in
        let joined : IsWay t (on.below + suc above) on.run.bottom top = way_join t on.below above on.run.bottom x p top on.up only up in
        let same : on.top ≡ top = on_one on.top top on.run w.at_top on.is (on.below + suc above) joined e.at_top in
        let alike : on.run ≡ run = same_Some on.run run (sym on.is ∙ ap (get runs) same ∙ is) in
        record {
          only = only;
          run = run;
          is = is;
          below = on.below;
          down = subst (λ (r : Run). IsWay t on.below r.bottom x) alike on.up;
          above = above;
          up = up;
        }

-- ---- the next member of a path

module _ (tree t u : Tree) (c p : Rev) (f : IsForest t) (n : IsNext tree t u c p) where
  no_parent : knows tree p ≡ false → parent_of t c ≡ None
  no_parent unknown = at (parent_of t c) refl
    where
      at : (o : Option Rev) → parent_of t c ≡ o → parent_of t c ≡ None
      at None e = e
      at (Some q) e =
          let same : q ≡ p = n.fits q (sym n.above ∙ e) in
          let there : knows t p ≡ true = subst (λ r. knows t r ≡ true) same (f.parents c q e).0 in
          absurd (true≢false (sym there ∙ n.there ∙ unknown))

  pub next_extends : knows tree p ≡ false → IsExtended t u c p
  next_extends unknown = member_extends t u c p n.known n.parents (n.there ∙ unknown) n.child (no_parent unknown)

  pub next_links : knows tree p ≡ true → parent_of tree c ≡ None → IsLinked t u c p
  next_links there none = member_links t u c p n.known n.parents (n.there ∙ there) n.child (n.above ∙ none)

  pub next_stays : (runs : RunMap) → knows tree p ≡ true → parent_of tree c ≡ Some p → AreRuns t runs → AreRuns u runs
  next_stays runs there link h = same_runs t u (known_same t u c p n.known n.parents (n.there ∙ there)) (member_known t u c p n.known n.parents (n.above ∙ link)) runs h
