-- The runs of a tree in which a root becomes the second child of a revision.
use Rattle.std.specs.Prelude.{◌≡◌, ◌⊎◌, ℕ, ◌+◌, ◌≤◌, true, false, Option, Some, None, refl}
use Rattle.std.proofs.Common.{sym, ap, subst, ◌∙◌, ⊎_elim, inl, inr, arith}
use Rattle.std.proofs.lemmas.Option.{none-some, same_Some}
use Rattle.model.specs.Map.{get, put, same_key-equal}
use Rattle.model.specs.Revision.{Rev, revs, same_rev}
use Rattle.model.specs.Tree.{Tree, IsForest, knows, parent_of}
use Rattle.model.proofs.ListLaws.{by_cases}
use Rattle.model.proofs.LookupLaws.{get-put_same, get-put_other}
use Rattle.model.proofs.TreeLaws.{knows_child, no_parent_of_leaf}
use Rattle.revision_runs.specs.declared.run.Run.{Run}
use Rattle.revision_runs.specs.Runs.{RunMap, HangsUnder}
use Rattle.revision_runs.specs.TreeRuns.{IsOnlyChild, IsOneChild, IsWay, IsTop, IsBottom, AreRuns, IsEnd, IsRunBut, AreRunsBut}
use Rattle.revision_runs.specs.Changes.{IsLinked}
use Rattle.revision_runs.proofs.Climbing.{same_top, top_not_only}
use Rattle.revision_runs.proofs.Linking.{leaf_other, parent_stays, parent_was, top_stays, younger}
use Rattle.revision_runs.proofs.Lows.{way_older}
use Rattle.revision_runs.proofs.Moving.{IsSameUnder, moved_bottom, moved_end, not_same, other_of, same_itself, under_end, way_map_to, way_map_up, whole_end}

module _ (t u : Tree) (c p : Rev) (before : IsForest t) (after : IsForest u) (link : IsLinked t u c p) (runs : RunMap) (h : AreRuns t runs) (x : Rev) (only : IsOnlyChild t p x)
    (top : Rev) (rt : Run) (at : get runs top ≡ Some rt) (below : ℕ) (down : IsWay t below rt.bottom x) (above : ℕ) (up : IsWay t above p top) (rc : Run) (at_c : get runs c ≡ Some rc)
    (upper lower hangs : Run) (upper_fork : upper.fork ≡ rt.fork) (upper_bottom : upper.bottom ≡ p) (upper_low : upper.low ≡ rt.low)
    (lower_fork : lower.fork ≡ Some p) (lower_bottom : lower.bottom ≡ rt.bottom) (lower_low : lower.low ≡ rt.low)
    (hangs_fork : hangs.fork ≡ Some p) (hangs_bottom : hangs.bottom ≡ rc.bottom) (hangs_low : hangs.low ≡ rc.low) where
  -- ---- which is which

  x_younger : x.generation ≡ p.generation + 1
  x_younger = (before.parents x p only.child).1

  top_older : top.generation ≤ p.generation
  top_older = way_older t before above p top up

  gen : (q r : Rev) → q ≡ r → q.generation ≡ r.generation
  gen q r e = ap (λ (z : Rev). z.generation) e

  x_not_c : same_rev x c ≡ false
  x_not_c = other_of x c (λ e. none-some p (sym link.none ∙ ap (parent_of t) (sym e) ∙ only.child))

  top_not_c : same_rev top c ≡ false
  top_not_c = other_of top c (λ e. let g = gen top c e in omega (arith, g, top_older, younger t u c p after link))

  top_not_x : same_rev top x ≡ false
  top_not_x = other_of top x (λ e. let g = gen top x e in omega (arith, g, top_older, x_younger))

  swap : (q r : Rev) → same_rev q r ≡ false → same_rev r q ≡ false
  swap q r s = other_of r q (λ e. not_same q r s (sym e))

  x_new : (r : Run) → get runs x ≡ Some r → ⊥
  x_new r is = top_not_only t x p ((h.each x r is).at_top) only

  unhung : rc.fork ≡ None
  unhung = (h.each c rc at_c).fork ∙ link.none

  -- no run ends at p
  no_end : (d : Rev) (r : Run) → get runs d ≡ Some r → r.bottom ≡ p → ⊥
  no_end d r is e = ⊎_elim
      (λ leaf. no_parent_of_leaf t p x leaf only.child)
      (λ y.
      let w = h.each y.0 y.1.run y.1.is in
      let child : parent_of t y.0 ≡ Some p = sym w.fork ∙ y.1.fork in
      top_not_only t y.0 p w.at_top (subst (IsOnlyChild t p) (sym (only.only y.0 child)) only))
      (subst (IsEnd t runs) e (whole_end t runs r.bottom r.low ((h.each d r is).low)))

  -- ---- the runs after

  abbrev pub parted : RunMap
  parted = put (put (put runs x lower) c hangs) top upper

  at_top : (d : Rev) → same_rev d top ≡ true → get parted d ≡ Some upper
  at_top d s = get-put_same (put (put runs x lower) c hangs) top upper d s

  at_hangs : (d : Rev) → same_rev d top ≡ false → same_rev d c ≡ true → get parted d ≡ Some hangs
  at_hangs d s k = get-put_other (put (put runs x lower) c hangs) top upper d s ∙ get-put_same (put runs x lower) c hangs d k

  at_lower : (d : Rev) → same_rev d top ≡ false → same_rev d c ≡ false → same_rev d x ≡ true → get parted d ≡ Some lower
  at_lower d s k y = get-put_other (put (put runs x lower) c hangs) top upper d s ∙ get-put_other (put runs x lower) c hangs d k ∙ get-put_same runs x lower d y

  at_other : (d : Rev) → same_rev d top ≡ false → same_rev d c ≡ false → same_rev d x ≡ false → get parted d ≡ get runs d
  at_other d s k y = get-put_other (put (put runs x lower) c hangs) top upper d s ∙ get-put_other (put runs x lower) c hangs d k ∙ get-put_other runs x lower d y

  -- one of the four
  cases : (d : Rev) {P : Type 0} → (same_rev d top ≡ true → P) → (same_rev d top ≡ false → same_rev d c ≡ true → P) → (same_rev d top ≡ false → same_rev d c ≡ false → same_rev d x ≡ true → P)
      → (same_rev d top ≡ false → same_rev d c ≡ false → same_rev d x ≡ false → P) → P
  cases d i j k l = by_cases (same_rev d top) i (λ s. by_cases (same_rev d c) (j s) (λ m. by_cases (same_rev d x) (k s m) (l s m)))

  old_at : (e : Rev) (re : Run) → get runs e ≡ Some re → (d : Rev) (r : Run) → same_rev d e ≡ true → get runs d ≡ Some r → re ≡ r
  old_at e re is_e d r s is = same_Some re r (sym is_e ∙ ap (get runs) (sym (same_key-equal revs d e s)) ∙ is)

  same_under : (q : Rev) → (q ≡ p → ⊥) → IsSameUnder runs parted q
  same_under q other = record {
    to = λ d r is under. cases d
        (λ s. let alike = old_at top rt at d r s is in
        record { run = upper; is = at_top d s; fork = upper_fork ∙ ap (λ (z : Run). z.fork) alike ∙ under; low = upper_low ∙ ap (λ (z : Run). z.low) alike })
        (λ s k. absurd (none-some q (sym unhung ∙ ap (λ (z : Run). z.fork) (old_at c rc at_c d r k is) ∙ under)))
        (λ s k y. absurd (x_new r (ap (get runs) (sym (same_key-equal revs d x y)) ∙ is)))
        (λ s k y. record { run = r; is = at_other d s k y ∙ is; fork = under; low = refl });
    from = λ d r is under. cases d
        (λ s. let alike = same_Some upper r (sym (at_top d s) ∙ is) in
        record {
          run = rt;
          is = ap (get runs) (same_key-equal revs d top s) ∙ at;
          fork = sym upper_fork ∙ ap (λ (z : Run). z.fork) alike ∙ under;
          low = sym upper_low ∙ ap (λ (z : Run). z.low) alike;
        })
        (λ s k. absurd (other (same_Some q p (sym under ∙ ap (λ (z : Run). z.fork) (sym (same_Some hangs r (sym (at_hangs d s k) ∙ is))) ∙ hangs_fork))))
        (λ s k y. absurd (other (same_Some q p (sym under ∙ ap (λ (z : Run). z.fork) (sym (same_Some lower r (sym (at_lower d s k y) ∙ is))) ∙ lower_fork))))
        (λ s k y. record { run = r; is = sym (at_other d s k y) ∙ is; fork = under; low = refl });
  }

  c_under : HangsUnder parted p c
  c_under = record { run = hangs; is = at_hangs c (swap top c top_not_c) (same_itself c); fork = hangs_fork }

  end_other : (q : Rev) → (q ≡ p → ⊥) → IsEnd t runs q → IsEnd u parted q
  end_other q other e = moved_end t u runs parted q (under_end runs parted q (same_under q other)) (leaf_other t u c p after link q other) e

  bottom_other : (q : Rev) (n : ℕ) → (q ≡ p → ⊥) → IsBottom t runs q n → IsBottom u parted q n
  bottom_other q n other e = moved_bottom t u runs parted q n (same_under q other) (leaf_other t u c p after link q other) e

  -- ---- ways

  only_other : (q y : Rev) → (q ≡ p → ⊥) → IsOnlyChild t q y → IsOnlyChild u q y
  only_other q y other o = record {
    child = parent_stays t u c p after link y q o.child;
    only = λ d e. ⊎_elim (λ k. absurd (other k.1)) (λ was. o.only d was) (parent_was t u c p after link d q e);
  }

  upper_way : IsWay u above p top
  upper_way = way_map_up t u before p.generation
      (λ q y le o. only_other q y (λ e.
      let same : y ≡ x = only.only y (o.child ∙ ap (λ z. Some z) e) in
      let g = gen y x same in
      omega (arith, g, le, x_younger)) o)
      above p top (omega arith) up

  lower_way : IsWay u below rt.bottom x
  lower_way = way_map_to t u x
      (λ q y n o rest. only_other q y (λ e. let le = way_older t before n q x rest in let g = gen q p e in omega (arith, le, g, x_younger)) o)
      below rt.bottom down

  other_way : (d : Rev) → IsTop t d → same_rev d top ≡ false → (n : ℕ) (b : Rev) → IsWay t n b d → IsWay u n b d
  other_way d is_top s n b way = way_map_to t u d
      (λ q y m o rest. only_other q y (λ e.
      not_same d top s (same_top t m above p d top is_top ((h.each top rt at).at_top) (subst (λ z. IsWay t m z d) e rest) up)) o)
      n b way

  -- ---- each run

  but_top : (d : Rev) (r : Run) → d ≡ top → upper ≡ r → IsRunBut u (Some p) parted d r
  but_top d r same alike =
      let w = h.each top rt at in
      let bottoms : p ≡ r.bottom = sym upper_bottom ∙ ap (λ (z : Run). z.bottom) alike in
      record {
        at_top = subst (IsTop u) (sym same) (top_stays t u c p after link top top_not_c w.at_top);
        fork = ap (λ (z : Run). z.fork) (sym alike) ∙ upper_fork ∙ w.fork ∙ sym (link.others top top_not_c) ∙ ap (parent_of u) (sym same);
        steps = above;
        way = subst (λ q. IsWay u above q d) bottoms (subst (IsWay u above p) (sym same) upper_way);
        ends = inr (c, subst (λ q. HangsUnder parted q c) bottoms c_under);
        low = λ fails. absurd (fails (ap (λ z. Some z) bottoms));
      }

  but_x : (d : Rev) (r : Run) → d ≡ x → lower ≡ r → IsRunBut u (Some p) parted d r
  but_x d r same alike =
      let w = h.each top rt at in
      let bottoms : rt.bottom ≡ r.bottom = sym lower_bottom ∙ ap (λ (z : Run). z.bottom) alike in
      let lows : rt.low ≡ r.low = sym lower_low ∙ ap (λ (z : Run). z.low) alike in
      let child : parent_of u x ≡ Some p = parent_stays t u c p after link x p only.child in
      let top_x : IsTop u x = (link.known x ∙ knows_child t x p only.child, inr (p, record { child = child; other = c; sibling = link.parent; apart = λ e. not_same x c x_not_c (sym e) })) in
      record {
        at_top = subst (IsTop u) (sym same) top_x;
        fork = ap (λ (z : Run). z.fork) (sym alike) ∙ lower_fork ∙ sym child ∙ ap (parent_of u) (sym same);
        steps = below;
        way = subst (λ q. IsWay u below q d) bottoms (subst (IsWay u below rt.bottom) (sym same) lower_way);
        ends = subst (IsEnd u parted) bottoms (end_other rt.bottom (no_end top rt at) (whole_end t runs rt.bottom rt.low w.low));
        low = λ fails. subst (IsBottom u parted r.bottom) lows (subst (λ q. IsBottom u parted q rt.low) bottoms (bottom_other rt.bottom rt.low (no_end top rt at) w.low));
      }

  but_c : (d : Rev) (r : Run) → d ≡ c → hangs ≡ r → IsRunBut u (Some p) parted d r
  but_c d r same alike =
      let e = h.each c rc at_c in
      let bottoms : rc.bottom ≡ r.bottom = sym hangs_bottom ∙ ap (λ (z : Run). z.bottom) alike in
      let lows : rc.low ≡ r.low = sym hangs_low ∙ ap (λ (z : Run). z.low) alike in
      let top_c : IsTop u c = (link.known c ∙ link.root, inr (p, record { child = link.parent; other = x; sibling = parent_stays t u c p after link x p only.child; apart = not_same x c x_not_c })) in
      record {
        at_top = subst (IsTop u) (sym same) top_c;
        fork = ap (λ (z : Run). z.fork) (sym alike) ∙ hangs_fork ∙ sym link.parent ∙ ap (parent_of u) (sym same);
        steps = e.steps;
        way = subst (λ q. IsWay u e.steps q d) bottoms (subst (IsWay u e.steps rc.bottom) (sym same) (other_way c e.at_top (swap top c top_not_c) e.steps rc.bottom e.way));
        ends = subst (IsEnd u parted) bottoms (end_other rc.bottom (no_end c rc at_c) (whole_end t runs rc.bottom rc.low e.low));
        low = λ fails. subst (IsBottom u parted r.bottom) lows (subst (λ q. IsBottom u parted q rc.low) bottoms (bottom_other rc.bottom rc.low (no_end c rc at_c) e.low));
      }

  but_other : (d : Rev) (r : Run) → same_rev d top ≡ false → same_rev d c ≡ false → get runs d ≡ Some r → IsRunBut u (Some p) parted d r
  but_other d r s k is =
      let e = h.each d r is in
      record {
        at_top = top_stays t u c p after link d k e.at_top;
        fork = e.fork ∙ sym (link.others d k);
        steps = e.steps;
        way = other_way d e.at_top s e.steps r.bottom e.way;
        ends = end_other r.bottom (no_end d r is) (whole_end t runs r.bottom r.low e.low);
        low = λ fails. bottom_other r.bottom r.low (no_end d r is) e.low;
      }

  top_was : (r : Rev) → same_rev r c ≡ false → same_rev r x ≡ false → IsTop u r → IsTop t r
  top_was r s y is_top = (sym (link.known r) ∙ is_top.0, ⊎_elim (λ none. inl (sym (link.others r s) ∙ none)) (λ o. one o.0 o.1) is_top.1)
    where
      one : (q : Rev) → IsOneChild u q r → (parent_of t r ≡ None) ⊎ ((q : Rev) × IsOneChild t q r)
      one q o = ⊎_elim
          (λ e. absurd (not_same r c s e.0))
          (λ was. ⊎_elim
          (λ e. absurd (not_same r x y (only.only r (was ∙ ap (λ z. Some z) e.1))))
          (λ other. inr (q, record { child = was; other = o.other; sibling = other; apart = o.apart }))
          (parent_was t u c p after link o.other q o.sibling))
          (parent_was t u c p after link r q o.child)

  pub parted_runs : AreRunsBut u (Some p) parted
  parted_runs = record {
    each = λ d r is. cases d
        (λ s. but_top d r (same_key-equal revs d top s) (same_Some upper r (sym (at_top d s) ∙ is)))
        (λ s k. but_c d r (same_key-equal revs d c k) (same_Some hangs r (sym (at_hangs d s k) ∙ is)))
        (λ s k y. but_x d r (same_key-equal revs d x y) (same_Some lower r (sym (at_lower d s k y) ∙ is)))
        (λ s k y. but_other d r s k (sym (at_other d s k y) ∙ is));
    all = λ r is_top. cases r
        (λ s. (upper, at_top r s))
        (λ s k. (hangs, at_hangs r s k))
        (λ s k y. (lower, at_lower r s k y))
        (λ s k y. let e = h.all r (top_was r k y is_top) in (e.0, at_other r s k y ∙ e.1));
    fork = λ b is. (c, subst (λ z. HangsUnder parted z c) (same_Some p b is) c_under);
  }
