-- The runs of a tree with a revision more: as a root alone, and as the parent of a root.
use Rattle.std.specs.Prelude.{◌≡◌, ◌⊎◌, ℕ, suc, ◌+◌, ◌||◌, Bool, true, false, Option, Some, None, refl}
use Rattle.std.proofs.Common.{sym, ap, subst, ◌∙◌, ⊎_elim, inl, inr, arith}
use Rattle.std.proofs.lemmas.Bool.{true≢false, or_cases, or_left, or_right}
use Rattle.std.proofs.lemmas.Option.{none-some, same_Some}
use Rattle.model.specs.Map.{get, put, without, same_key-equal}
use Rattle.model.specs.Revision.{Rev, revs, same_rev}
use Rattle.model.specs.Tree.{Tree, IsForest, is_leaf, knows, parent_of}
use Rattle.model.proofs.ListLaws.{by_cases}
use Rattle.model.proofs.LookupLaws.{get-put_same, get-put_other, get-without_same, get-without_other}
use Rattle.model.proofs.TreeLaws.{is_leaf-childless, knows_child, leaf_known}
use Rattle.revision_runs.specs.declared.run.Run.{Run}
use Rattle.revision_runs.specs.Runs.{RunMap, HangsUnder}
use Rattle.revision_runs.specs.TreeRuns.{IsOnlyChild, IsOneChild, IsWay, IsTop, IsBottom, IsRunOf, AreRuns}
use Rattle.revision_runs.specs.Changes.{IsRooted, IsExtended}
use Rattle.revision_runs.proofs.Climbing.{top_not_only}
use Rattle.revision_runs.proofs.Moving.{IsSameUnder, moved_bottom, not_same, other_of, same_itself, way_join, way_map}

-- an unknown revision has no parent
no_parent : (t : Tree) (r : Rev) → knows t r ≡ false → parent_of t r ≡ None
no_parent t r unknown = at (parent_of t r) refl
  where
    at : (o : Option Rev) → parent_of t r ≡ o → parent_of t r ≡ None
    at None e = e
    at (Some p) e = absurd (true≢false (sym (knows_child t r p e) ∙ unknown))

-- ---- a root alone

module _ (t u : Tree) (r : Rev) (before : IsForest t) (root : IsRooted t u r) (runs : RunMap) (h : AreRuns t runs) (lone : Run) (fork : lone.fork ≡ None) (bottom : lone.bottom ≡ r) (low : lone.low ≡ r.generation) where
  known_r : knows u r ≡ true
  known_r = root.known r ∙ or_right (knows t r) (same_rev r r) (same_itself r)

  childless : (d : Rev) → parent_of t d ≡ Some r → ⊥
  childless d up = true≢false (sym ((before.parents d r up).0) ∙ root.unknown)

  leaf_stays : (q : Rev) → is_leaf t q ≡ true → is_leaf u q ≡ true
  leaf_stays q leaf =
      let x = (is_leaf-childless t q).0 leaf in
      (is_leaf-childless u q).1 (root.known q ∙ or_left (knows t q) (same_rev q r) x.0, λ d up. x.1 d (sym (root.parents d) ∙ up))

  only_stays : (q x : Rev) → IsOnlyChild t q x → IsOnlyChild u q x
  only_stays q x o = record { child = root.parents x ∙ o.child; only = λ d up. o.only d (sym (root.parents d) ∙ up) }

  one_stays : (q x : Rev) → IsOneChild t q x → IsOneChild u q x
  one_stays q x o = record { child = root.parents x ∙ o.child; other = o.other; sibling = root.parents o.other ∙ o.sibling; apart = o.apart }

  one_was : (q x : Rev) → IsOneChild u q x → IsOneChild t q x
  one_was q x o = record { child = sym (root.parents x) ∙ o.child; other = o.other; sibling = sym (root.parents o.other) ∙ o.sibling; apart = o.apart }

  abbrev pub rooted : RunMap
  rooted = put runs r lone

  not_there : (run : Run) → get runs r ≡ Some run → ⊥
  not_there run is = true≢false (sym ((h.each r run is).at_top.0) ∙ root.unknown)

  same_under : (q : Rev) → IsSameUnder runs rooted q
  same_under q = record {
    to = λ d x is under. by_cases (same_rev d r)
        (λ s. absurd (not_there x (ap (get runs) (sym (same_key-equal revs d r s)) ∙ is)))
        (λ s. record { run = x; is = get-put_other runs r lone d s ∙ is; fork = under; low = refl });
    from = λ d x is under. by_cases (same_rev d r)
        (λ s. absurd (none-some q (sym fork ∙ ap (λ (z : Run). z.fork) (same_Some lone x (sym (get-put_same runs r lone d s) ∙ is)) ∙ under)))
        (λ s. record { run = x; is = sym (get-put_other runs r lone d s) ∙ is; fork = under; low = refl });
  }

  run_r : (d : Rev) (x : Run) → d ≡ r → lone ≡ x → IsRunOf u rooted d x
  run_r d x same alike =
      let bottoms : x.bottom ≡ d = ap (λ (z : Run). z.bottom) (sym alike) ∙ bottom ∙ sym same in
      let leaf : is_leaf u r ≡ true = (is_leaf-childless u r).1 (known_r, λ e up. childless e (sym (root.parents e) ∙ up)) in
      let none : parent_of u r ≡ None = root.parents r ∙ no_parent t r root.unknown in
      record {
        at_top = subst (IsTop u) (sym same) (known_r, inl none);
        fork = ap (λ (z : Run). z.fork) (sym alike) ∙ fork ∙ sym none ∙ ap (parent_of u) (sym same);
        steps = 0;
        way = bottoms;
        low = inl (subst (λ q. is_leaf u q ≡ true) (sym (bottoms ∙ same)) leaf, ap (λ (z : Run). z.low) (sym alike) ∙ low ∙ ap (λ (z : Rev). z.generation) (sym (bottoms ∙ same)));
      }

  run_other : (d : Rev) (x : Run) → get runs d ≡ Some x → IsRunOf u rooted d x
  run_other d x is =
      let e = h.each d x is in
      record {
        at_top = (root.known d ∙ or_left (knows t d) (same_rev d r) e.at_top.0, ⊎_elim (λ none. inl (root.parents d ∙ none)) (λ o. inr (o.0, one_stays o.0 d o.1)) e.at_top.1);
        fork = e.fork ∙ sym (root.parents d);
        steps = e.steps;
        way = way_map t u only_stays e.steps x.bottom d e.way;
        low = moved_bottom t u runs rooted x.bottom x.low (same_under x.bottom) (leaf_stays x.bottom) e.low;
      }

  pub rooted_runs : AreRuns u rooted
  rooted_runs = record {
    each = λ d x is. by_cases (same_rev d r)
        (λ s. run_r d x (same_key-equal revs d r s) (same_Some lone x (sym (get-put_same runs r lone d s) ∙ is)))
        (λ s. run_other d x (sym (get-put_other runs r lone d s) ∙ is));
    all = λ q top. by_cases (same_rev q r)
        (λ s. (lone, get-put_same runs r lone q s))
        (λ s.
        let k : knows t q ≡ true = ⊎_elim (λ k. k) (λ y. absurd (true≢false (sym y ∙ s))) (or_cases (knows t q) (same_rev q r) (sym (root.known q) ∙ top.0)) in
        let e = h.all q (k, ⊎_elim (λ none. inl (sym (root.parents q) ∙ none)) (λ o. inr (o.0, one_was o.0 q o.1)) top.1) in
        (e.0, get-put_other runs r lone q s ∙ e.1));
  }

-- ---- as the parent of a root

module _ (t u : Tree) (c p : Rev) (before : IsForest t) (new : IsExtended t u c p) (runs : RunMap) (h : AreRuns t runs) (rc : Run) (at_c : get runs c ≡ Some rc)
    (higher : Run) (fork : higher.fork ≡ None) (bottom : higher.bottom ≡ rc.bottom) (low : higher.low ≡ rc.low) where
  known_p : knows u p ≡ true
  known_p = new.known p ∙ or_right (knows t p) (same_rev p p) (same_itself p)

  p_not_c : same_rev p c ≡ false
  p_not_c = other_of p c (λ e. true≢false (sym (ap (knows t) e ∙ new.root) ∙ new.unknown))

  c_not_p : same_rev c p ≡ false
  c_not_p = other_of c p (λ e. not_same p c p_not_c (sym e))

  orphan : (d : Rev) → parent_of t d ≡ Some p → ⊥
  orphan d up = true≢false (sym ((before.parents d p up).0) ∙ new.unknown)

  up_stays : (d q : Rev) → parent_of t d ≡ Some q → parent_of u d ≡ Some q
  up_stays d q up = by_cases (same_rev d c)
      (λ s. absurd (none-some q (sym new.none ∙ ap (parent_of t) (sym (same_key-equal revs d c s)) ∙ up)))
      (λ s. new.others d s ∙ up)

  up_was : (d q : Rev) → parent_of u d ≡ Some q → ((d ≡ c) × (q ≡ p)) ⊎ (parent_of t d ≡ Some q)
  up_was d q up = by_cases (same_rev d c)
      (λ s. let e = same_key-equal revs d c s in inl (e, same_Some q p (sym up ∙ ap (parent_of u) e ∙ new.parent)))
      (λ s. inr (sym (new.others d s) ∙ up))

  only_p : IsOnlyChild u p c
  only_p = record { child = new.parent; only = λ d up. ⊎_elim (λ e. e.0) (λ was. absurd (orphan d was)) (up_was d p up) }

  keeps_only : (q x : Rev) → IsOnlyChild t q x → IsOnlyChild u q x
  keeps_only q x o = record {
    child = up_stays x q o.child;
    only = λ d up. ⊎_elim (λ e. absurd (orphan x (o.child ∙ ap (λ z. Some z) e.1))) (λ was. o.only d was) (up_was d q up);
  }

  keeps_leaf : (q : Rev) → is_leaf t q ≡ true → is_leaf u q ≡ true
  keeps_leaf q leaf =
      let x = (is_leaf-childless t q).0 leaf in
      (is_leaf-childless u q).1 (
        new.known q ∙ or_left (knows t q) (same_rev q p) x.0,
        λ d up. ⊎_elim (λ e. true≢false (sym (sym (ap (knows t) e.1) ∙ x.0) ∙ new.unknown)) (λ was. x.1 d was) (up_was d q up),
      )

  keeps_one : (q x : Rev) → IsOneChild t q x → IsOneChild u q x
  keeps_one q x o = record { child = up_stays x q o.child; other = o.other; sibling = up_stays o.other q o.sibling; apart = o.apart }

  had_one : (q x : Rev) → same_rev x c ≡ false → IsOneChild u q x → IsOneChild t q x
  had_one q x s o = record {
    child = ⊎_elim (λ e. absurd (not_same x c s e.0)) (λ was. was) (up_was x q o.child);
    other = o.other;
    sibling = ⊎_elim (λ e. absurd (not_same x c s (only_p.only x (o.child ∙ ap (λ z. Some z) e.1)))) (λ was. was) (up_was o.other q o.sibling);
    apart = o.apart;
  }

  abbrev pub extended : RunMap
  extended = put (without runs c) p higher

  is_p : (d : Rev) → same_rev d p ≡ true → get extended d ≡ Some higher
  is_p d s = get-put_same (without runs c) p higher d s

  is_c : (d : Rev) → same_rev d p ≡ false → same_rev d c ≡ true → get extended d ≡ None
  is_c d s k = get-put_other (without runs c) p higher d s ∙ get-without_same runs c d k

  is_other : (d : Rev) → same_rev d p ≡ false → same_rev d c ≡ false → get extended d ≡ get runs d
  is_other d s k = get-put_other (without runs c) p higher d s ∙ get-without_other runs c d k

  p_new : (x : Run) → get runs p ≡ Some x → ⊥
  p_new x is = true≢false (sym ((h.each p x is).at_top.0) ∙ new.unknown)

  under_same : (q : Rev) → IsSameUnder runs extended q
  under_same q = record {
    to = λ d x is under. by_cases (same_rev d p)
        (λ s. absurd (p_new x (ap (get runs) (sym (same_key-equal revs d p s)) ∙ is)))
        (λ s. by_cases (same_rev d c)
        (λ k. absurd (none-some q (sym new.none ∙ sym ((h.each c rc at_c).fork) ∙ ap (λ (z : Run). z.fork) (same_Some rc x (sym at_c ∙ ap (get runs) (sym (same_key-equal revs d c k)) ∙ is)) ∙ under)))
        (λ k. record { run = x; is = is_other d s k ∙ is; fork = under; low = refl }));
    from = λ d x is under. by_cases (same_rev d p)
        (λ s. absurd (none-some q (sym fork ∙ ap (λ (z : Run). z.fork) (same_Some higher x (sym (is_p d s) ∙ is)) ∙ under)))
        (λ s. by_cases (same_rev d c)
        (λ k. absurd (none-some x (sym (is_c d s k) ∙ is)))
        (λ k. record { run = x; is = sym (is_other d s k) ∙ is; fork = under; low = refl }));
  }

  run_p : (d : Rev) (x : Run) → d ≡ p → higher ≡ x → IsRunOf u extended d x
  run_p d x same alike =
      let e = h.each c rc at_c in
      let bottoms : rc.bottom ≡ x.bottom = sym bottom ∙ ap (λ (z : Run). z.bottom) alike in
      let lows : rc.low ≡ x.low = sym low ∙ ap (λ (z : Run). z.low) alike in
      let none : parent_of u p ≡ None = new.others p p_not_c ∙ no_parent t p new.unknown in
      record {
        at_top = subst (IsTop u) (sym same) (known_p, inl none);
        fork = ap (λ (z : Run). z.fork) (sym alike) ∙ fork ∙ sym none ∙ ap (parent_of u) (sym same);
        steps = e.steps + suc 0;
        way = subst (λ q. IsWay u (e.steps + suc 0) q d) bottoms (subst (IsWay u (e.steps + suc 0) rc.bottom) (sym same)
            (way_join u e.steps 0 rc.bottom c p p (way_map t u keeps_only e.steps rc.bottom c e.way) only_p refl));
        low = subst (IsBottom u extended x.bottom) lows (subst (λ q. IsBottom u extended q rc.low) bottoms (moved_bottom t u runs extended rc.bottom rc.low (under_same rc.bottom) (keeps_leaf rc.bottom) e.low));
      }

  run_kept : (d : Rev) (x : Run) → same_rev d c ≡ false → get runs d ≡ Some x → IsRunOf u extended d x
  run_kept d x k is =
      let e = h.each d x is in
      record {
        at_top = (new.known d ∙ or_left (knows t d) (same_rev d p) e.at_top.0, ⊎_elim (λ none. inl (new.others d k ∙ none)) (λ o. inr (o.0, keeps_one o.0 d o.1)) e.at_top.1);
        fork = e.fork ∙ sym (new.others d k);
        steps = e.steps;
        way = way_map t u keeps_only e.steps x.bottom d e.way;
        low = moved_bottom t u runs extended x.bottom x.low (under_same x.bottom) (keeps_leaf x.bottom) e.low;
      }

  pub extended_runs : AreRuns u extended
  extended_runs = record {
    each = λ d x is. by_cases (same_rev d p)
        (λ s. run_p d x (same_key-equal revs d p s) (same_Some higher x (sym (is_p d s) ∙ is)))
        (λ s. by_cases (same_rev d c)
        (λ k. absurd (none-some x (sym (is_c d s k) ∙ is)))
        (λ k. run_kept d x k (sym (is_other d s k) ∙ is)));
    all = λ q top. by_cases (same_rev q p)
        (λ s. (higher, is_p q s))
        (λ s. by_cases (same_rev q c)
        (λ k. absurd (top_not_only u c p (subst (IsTop u) (same_key-equal revs q c k) top) only_p))
        (λ k.
        let known : knows t q ≡ true = ⊎_elim (λ y. y) (λ y. absurd (true≢false (sym y ∙ s))) (or_cases (knows t q) (same_rev q p) (sym (new.known q) ∙ top.0)) in
        let e = h.all q (known, ⊎_elim (λ none. inl (sym (new.others q k) ∙ none)) (λ o. inr (o.0, had_one o.0 q k o.1)) top.1) in
        (e.0, is_other q s k ∙ e.1)));
  }
