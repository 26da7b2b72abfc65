-- The runs of a tree in which a child of a fork becomes a root.
use Rattle.std.specs.Prelude.{◌≡◌, ◌≢◌, ◌⊎◌, ℕ, suc, ◌+◌, ◌≤◌, true, false, Option, Some, None, refl}
use Rattle.std.proofs.Common.{sym, ap, subst, ◌∙◌, ⊎_elim, inl, inr, arith}
use Rattle.std.proofs.lemmas.Option.{none-some, same_Some}
use Rattle.model.specs.Map.{get, put, without, same_key-equal}
use Rattle.model.specs.Revision.{Rev, revs, same_rev}
use Rattle.model.specs.Tree.{Tree, IsForest, is_leaf, knows, parent_of}
use Rattle.model.proofs.ListLaws.{by_cases}
use Rattle.model.proofs.LookupLaws.{get-put_same, get-put_other, get-without_same, get-without_other}
use Rattle.model.proofs.TreeLaws.{is_leaf-childless, knows_child}
use Rattle.revision_runs.specs.declared.run.Run.{Run}
use Rattle.revision_runs.specs.Runs.{RunMap, EndsAt, HangsUnder}
use Rattle.revision_runs.specs.TreeRuns.{IsOnlyChild, IsOneChild, IsWay, IsTop, IsBottom, AreRuns, IsEnd, IsRunBut, AreRunsBut}
use Rattle.revision_runs.specs.Changes.{IsUnlinked}
use Rattle.revision_runs.proofs.Climbing.{one_ending, top_not_only}
use Rattle.revision_runs.proofs.Lows.{way_older}
use Rattle.revision_runs.proofs.Moving.{IsSameUnder, moved_bottom, moved_end, not_same, other_of, same_itself, under_end, way_join, way_map, whole, whole_end}

module _ (t u : Tree) (c p : Rev) (before : IsForest t) (off : IsUnlinked t u c p) (runs : RunMap) (h : AreRuns t runs) (rc : Run) (at_c : get runs c ≡ Some rc)
    (lone : Run) (lone_fork : lone.fork ≡ None) (lone_bottom : lone.bottom ≡ rc.bottom) (lone_low : lone.low ≡ rc.low) where
  younger : c.generation ≡ p.generation + 1
  younger = (before.parents c p off.parent).1

  hung : rc.fork ≡ Some p
  hung = (h.each c rc at_c).fork ∙ off.parent

  up_was : (q r : Rev) → parent_of u q ≡ Some r → parent_of t q ≡ Some r
  up_was q r up = by_cases (same_rev q c)
      (λ s. absurd (none-some r (sym off.none ∙ ap (parent_of u) (sym (same_key-equal revs q c s)) ∙ up)))
      (λ s. sym (off.others q s) ∙ up)

  up_stays : (q r : Rev) → same_rev q c ≡ false → parent_of t q ≡ Some r → parent_of u q ≡ Some r
  up_stays q r s up = off.others q s ∙ up

  not_only_c : (q : Rev) → IsOnlyChild t q c → ⊥
  not_only_c q o = top_not_only t c q ((h.each c rc at_c).at_top) o

  only_stays : (q x : Rev) → IsOnlyChild t q x → IsOnlyChild u q x
  only_stays q x o = record {
    child = up_stays x q (other_of x c (λ e. not_only_c q (subst (IsOnlyChild t q) e o))) o.child;
    only = λ d up. o.only d (up_was d q up);
  }

  leaf_stays : (q : Rev) → is_leaf t q ≡ true → is_leaf u q ≡ true
  leaf_stays q leaf = let x = (is_leaf-childless t q).0 leaf in (is_leaf-childless u q).1 (off.known q ∙ x.0, λ d up. x.1 d (up_was d q up))

  one_was : (q r : Rev) → IsOneChild u q r → IsOneChild t q r
  one_was q r o = record { child = up_was r q o.child; other = o.other; sibling = up_was o.other q o.sibling; apart = o.apart }

  top_was : (r : Rev) → same_rev r c ≡ false → IsTop u r → IsTop t r
  top_was r s top = (sym (off.known r) ∙ top.0, ⊎_elim (λ none. inl (sym (off.others r s) ∙ none)) (λ o. inr (o.0, one_was o.0 r o.1)) top.1)

  c_bottom : rc.bottom ≡ p → ⊥
  c_bottom e =
      let w = h.each c rc at_c in
      let older = way_older t before w.steps rc.bottom c w.way in
      let g = ap (λ (q : Rev). q.generation) e in
      omega (arith, younger, older, g)

  run_c : (d : Rev) (r : Run) → same_rev d c ≡ true → get runs d ≡ Some r → rc ≡ r
  run_c d r s is = same_Some rc r (sym at_c ∙ ap (get runs) (sym (same_key-equal revs d c s)) ∙ is)

  -- ---- two or more others are left under the fork

  module _ (a b : Rev) (child_a : parent_of t a ≡ Some p) (child_b : parent_of t b ≡ Some p) (a_not_c : same_rev a c ≡ false) (b_not_c : same_rev b c ≡ false) (apart : a ≢ b)
      (ra : Run) (at_a : get runs a ≡ Some ra) where
    abbrev pub freed : RunMap
    freed = put runs c lone

    is_c : (d : Rev) → same_rev d c ≡ true → get freed d ≡ Some lone
    is_c d s = get-put_same runs c lone d s

    is_other : (d : Rev) → same_rev d c ≡ false → get freed d ≡ get runs d
    is_other d s = get-put_other runs c lone d s

    a_under : HangsUnder freed p a
    a_under = record { run = ra; is = is_other a a_not_c ∙ at_a; fork = (h.each a ra at_a).fork ∙ child_a }

    same_under : (q : Rev) → (q ≡ p → ⊥) → IsSameUnder runs freed q
    same_under q other = record {
      to = λ d r is under. by_cases (same_rev d c)
          (λ s. absurd (other (same_Some q p (sym under ∙ ap (λ (z : Run). z.fork) (sym (run_c d r s is)) ∙ hung))))
          (λ s. record { run = r; is = is_other d s ∙ is; fork = under; low = refl });
      from = λ d r is under. by_cases (same_rev d c)
          (λ s. absurd (none-some q (sym lone_fork ∙ ap (λ (z : Run). z.fork) (same_Some lone r (sym (is_c d s) ∙ is)) ∙ under)))
          (λ s. record { run = r; is = sym (is_other d s) ∙ is; fork = under; low = refl });
    }

    end_stays : (q : Rev) → IsEnd t runs q → IsEnd u freed q
    end_stays q e = by_cases (same_rev q p)
        (λ s. inr (a, subst (λ z. HangsUnder freed z a) (sym (same_key-equal revs q p s)) a_under))
        (λ s. moved_end t u runs freed q (under_end runs freed q (same_under q (not_same q p s))) (leaf_stays q) e)

    -- a child of the fork has a sibling still
    still_one : (d : Rev) → same_rev d c ≡ false → parent_of t d ≡ Some p → IsOneChild u p d
    still_one d s up = by_cases (same_rev a d)
        (λ e. let is = same_key-equal revs a d e in
        record { child = up_stays d p s up; other = b; sibling = up_stays b p b_not_c child_b; apart = λ k. apart (is ∙ sym k) })
        (λ e. record { child = up_stays d p s up; other = a; sibling = up_stays a p a_not_c child_a; apart = not_same a d e })

    one_stays : (q d : Rev) → same_rev d c ≡ false → IsOneChild t q d → IsOneChild u q d
    one_stays q d s o = by_cases (same_rev o.other c)
        (λ e.
        let is : q ≡ p = same_Some q p (sym o.sibling ∙ ap (parent_of t) (same_key-equal revs o.other c e) ∙ off.parent) in
        subst (λ z. IsOneChild u z d) (sym is) (still_one d s (o.child ∙ ap (λ z. Some z) is)))
        (λ e. record { child = up_stays d q s o.child; other = o.other; sibling = up_stays o.other q e o.sibling; apart = o.apart })

    but_c : (d : Rev) (r : Run) → d ≡ c → lone ≡ r → IsRunBut u (Some p) freed d r
    but_c d r same alike =
        let e = h.each c rc at_c in
        let bottoms : rc.bottom ≡ r.bottom = sym lone_bottom ∙ ap (λ (z : Run). z.bottom) alike in
        let lows : rc.low ≡ r.low = sym lone_low ∙ ap (λ (z : Run). z.low) alike in
        record {
          at_top = subst (IsTop u) (sym same) (off.known c ∙ e.at_top.0, inl off.none);
          fork = ap (λ (z : Run). z.fork) (sym alike) ∙ lone_fork ∙ sym off.none ∙ ap (parent_of u) (sym same);
          steps = e.steps;
          way = subst (λ q. IsWay u e.steps q d) bottoms (subst (IsWay u e.steps rc.bottom) (sym same) (way_map t u only_stays e.steps rc.bottom c e.way));
          ends = subst (IsEnd u freed) bottoms (end_stays rc.bottom (whole_end t runs rc.bottom rc.low e.low));
          low = λ fails. subst (IsBottom u freed r.bottom) lows (subst (λ q. IsBottom u freed q rc.low) bottoms (moved_bottom t u runs freed rc.bottom rc.low (same_under rc.bottom c_bottom) (leaf_stays rc.bottom) e.low));
        }

    but_other : (d : Rev) (r : Run) → same_rev d c ≡ false → get runs d ≡ Some r → IsRunBut u (Some p) freed d r
    but_other d r s is =
        let e = h.each d r is in
        record {
          at_top = (off.known d ∙ e.at_top.0, ⊎_elim (λ none. inl (off.others d s ∙ none)) (λ o. inr (o.0, one_stays o.0 d s o.1)) e.at_top.1);
          fork = e.fork ∙ sym (off.others d s);
          steps = e.steps;
          way = way_map t u only_stays e.steps r.bottom d e.way;
          ends = end_stays r.bottom (whole_end t runs r.bottom r.low e.low);
          low = λ fails. moved_bottom t u runs freed r.bottom r.low (same_under r.bottom (λ x. fails (ap (λ z. Some z) (sym x)))) (leaf_stays r.bottom) e.low;
        }

    pub freed_runs : AreRunsBut u (Some p) freed
    freed_runs = record {
      each = λ d r is. by_cases (same_rev d c)
          (λ s. but_c d r (same_key-equal revs d c s) (same_Some lone r (sym (is_c d s) ∙ is)))
          (λ s. but_other d r s (sym (is_other d s) ∙ is));
      all = λ r top. by_cases (same_rev r c)
          (λ s. (lone, is_c r s))
          (λ s. let x = h.all r (top_was r s top) in (x.0, is_other r s ∙ x.1));
      fork = λ q is. (a, subst (λ z. HangsUnder freed z a) (same_Some p q is) a_under);
    }

  -- ---- one other is left

  module _ (y : Rev) (only_y : IsOnlyChild u p y) (ry : Run) (at_y : get runs y ≡ Some ry) (top : Rev) (rt : Run) (at : get runs top ≡ Some rt) (ends : rt.bottom ≡ p)
      (lower : Run) (fork : lower.fork ≡ rt.fork) (bottom : lower.bottom ≡ ry.bottom) (low : lower.low ≡ ry.low) where
    y_not_c : same_rev y c ≡ false
    y_not_c = other_of y c (λ e. none-some p (sym off.none ∙ ap (parent_of u) (sym e) ∙ only_y.child))

    child_y : parent_of t y ≡ Some p
    child_y = up_was y p only_y.child

    top_older : top.generation ≤ p.generation
    top_older =
        let w = h.each top rt at in
        let older = way_older t before w.steps rt.bottom top w.way in
        let g = ap (λ (q : Rev). q.generation) ends in
        omega (arith, older, g)

    top_not : (d : Rev) → parent_of t d ≡ Some p → same_rev top d ≡ false
    top_not d up = other_of top d (λ e.
        let g = (before.parents d p up).1 in
        let k = ap (λ (q : Rev). q.generation) e in
        omega (arith, g, k, top_older))

    not_top : (d : Rev) → parent_of t d ≡ Some p → same_rev d top ≡ false
    not_top d up = other_of d top (λ e. not_same top d (top_not d up) (sym e))

    y_bottom : ry.bottom ≡ p → ⊥
    y_bottom e =
        let w = h.each y ry at_y in
        let older = way_older t before w.steps ry.bottom y w.way in
        let g = ap (λ (q : Rev). q.generation) e in
        let k = (before.parents y p child_y).1 in
        omega (arith, older, g, k)

    abbrev pub merged : RunMap
    merged = put (without (put runs c lone) y) top lower

    m_top : (d : Rev) → same_rev d top ≡ true → get merged d ≡ Some lower
    m_top d s = get-put_same (without (put runs c lone) y) top lower d s

    m_y : (d : Rev) → same_rev d top ≡ false → same_rev d y ≡ true → get merged d ≡ None
    m_y d s k = get-put_other (without (put runs c lone) y) top lower d s ∙ get-without_same (put runs c lone) y d k

    m_c : (d : Rev) → same_rev d top ≡ false → same_rev d y ≡ false → same_rev d c ≡ true → get merged d ≡ Some lone
    m_c d s k z = get-put_other (without (put runs c lone) y) top lower d s ∙ get-without_other (put runs c lone) y d k ∙ get-put_same runs c lone d z

    m_other : (d : Rev) → same_rev d top ≡ false → same_rev d y ≡ false → same_rev d c ≡ false → get merged d ≡ get runs d
    m_other d s k z = get-put_other (without (put runs c lone) y) top lower d s ∙ get-without_other (put runs c lone) y d k ∙ get-put_other runs c lone d z

    cases : (d : Rev) {P : Type 0} → (same_rev d top ≡ true → P) → (same_rev d top ≡ false → same_rev d y ≡ true → P) → (same_rev d top ≡ false → same_rev d y ≡ false → same_rev d c ≡ true → P)
        → (same_rev d top ≡ false → same_rev d y ≡ false → same_rev d c ≡ false → P) → P
    cases d i j k l = by_cases (same_rev d top) i (λ s. by_cases (same_rev d y) (j s) (λ m. by_cases (same_rev d c) (k s m) (l s m)))

    run_top : (d : Rev) (r : Run) → same_rev d top ≡ true → get runs d ≡ Some r → rt ≡ r
    run_top d r s is = same_Some rt r (sym at ∙ ap (get runs) (sym (same_key-equal revs d top s)) ∙ is)

    run_y : (d : Rev) (r : Run) → same_rev d y ≡ true → get runs d ≡ Some r → ry ≡ r
    run_y d r s is = same_Some ry r (sym at_y ∙ ap (get runs) (sym (same_key-equal revs d y s)) ∙ is)

    hung_y : ry.fork ≡ Some p
    hung_y = (h.each y ry at_y).fork ∙ child_y

    -- but for the fork above, and p itself, what hangs is as before
    under_same : (q : Rev) → (q ≡ p → ⊥) → (rt.fork ≡ Some q → ⊥) → IsSameUnder runs merged q
    under_same q other above = record {
      to = λ d r is under. cases d
          (λ s. absurd (above (ap (λ (z : Run). z.fork) (run_top d r s is) ∙ under)))
          (λ s k. absurd (other (same_Some q p (sym under ∙ ap (λ (z : Run). z.fork) (sym (run_y d r k is)) ∙ hung_y))))
          (λ s k z. absurd (other (same_Some q p (sym under ∙ ap (λ (z : Run). z.fork) (sym (run_c d r z is)) ∙ hung))))
          (λ s k z. record { run = r; is = m_other d s k z ∙ is; fork = under; low = refl });
      from = λ d r is under. cases d
          (λ s. absurd (above (sym fork ∙ ap (λ (z : Run). z.fork) (same_Some lower r (sym (m_top d s) ∙ is)) ∙ under)))
          (λ s k. absurd (none-some r (sym (m_y d s k) ∙ is)))
          (λ s k z. absurd (none-some q (sym lone_fork ∙ ap (λ (z : Run). z.fork) (same_Some lone r (sym (m_c d s k z) ∙ is)) ∙ under)))
          (λ s k z. record { run = r; is = sym (m_other d s k z) ∙ is; fork = under; low = refl });
    }

    hung_stays : (q : Rev) → (q ≡ p → ⊥) → (d : Rev) → HangsUnder runs q d → (e : Rev) × HangsUnder merged q e
    hung_stays q other d x = cases d
        (λ s. (d, record { run = lower; is = m_top d s; fork = fork ∙ ap (λ (z : Run). z.fork) (run_top d x.run s x.is) ∙ x.fork }))
        (λ s k. absurd (other (same_Some q p (sym x.fork ∙ ap (λ (z : Run). z.fork) (sym (run_y d x.run k x.is)) ∙ hung_y))))
        (λ s k z. absurd (other (same_Some q p (sym x.fork ∙ ap (λ (z : Run). z.fork) (sym (run_c d x.run z x.is)) ∙ hung))))
        (λ s k z. (d, record { run = x.run; is = m_other d s k z ∙ x.is; fork = x.fork }))

    ends_other : (q : Rev) → (q ≡ p → ⊥) → IsEnd t runs q → IsEnd u merged q
    ends_other q other e = moved_end t u runs merged q (hung_stays q other) (leaf_stays q) e

    bottoms_other : (q : Rev) (n : ℕ) → (q ≡ p → ⊥) → (rt.fork ≡ Some q → ⊥) → IsBottom t runs q n → IsBottom u merged q n
    bottoms_other q n other above e = moved_bottom t u runs merged q n (under_same q other above) (leaf_stays q) e

    keeps_top : (d : Rev) → same_rev d c ≡ false → same_rev d y ≡ false → IsTop t d → IsTop u d
    keeps_top d z k top_d = (off.known d ∙ top_d.0, ⊎_elim (λ none. inl (off.others d z ∙ none)) (λ o. one o.0 o.1) top_d.1)
      where
        one : (q : Rev) → IsOneChild t q d → (parent_of u d ≡ None) ⊎ ((q : Rev) × IsOneChild u q d)
        one q o = by_cases (same_rev o.other c)
            (λ e.
            let is : q ≡ p = same_Some q p (sym o.sibling ∙ ap (parent_of t) (same_key-equal revs o.other c e) ∙ off.parent) in
            absurd (not_same d y k (only_y.only d (up_stays d p z (o.child ∙ ap (λ x. Some x) is)))))
            (λ e. inr (q, record { child = up_stays d q z o.child; other = o.other; sibling = up_stays o.other q e o.sibling; apart = o.apart }))

    not_here : (d : Rev) (r : Run) → get runs d ≡ Some r → same_rev d top ≡ false → r.bottom ≡ p → ⊥
    not_here d r is s e = not_same d top s (one_ending t before None runs (whole t runs h) p d top (record { run = r; is = is; bottom = e }) (record { run = rt; is = at; bottom = ends }))

    but_top : (d : Rev) (r : Run) → d ≡ top → lower ≡ r → IsRunBut u rt.fork merged d r
    but_top d r same alike =
        let e = h.each y ry at_y in
        let w = h.each top rt at in
        let bottoms : ry.bottom ≡ r.bottom = sym bottom ∙ ap (λ (z : Run). z.bottom) alike in
        let lows : ry.low ≡ r.low = sym low ∙ ap (λ (z : Run). z.low) alike in
        let joined = way_join u e.steps w.steps ry.bottom y p top (way_map t u only_stays e.steps ry.bottom y e.way) only_y
        (way_map t u only_stays w.steps p top (subst (λ q. IsWay t w.steps q top) ends w.way)) in
        record {
          at_top = subst (IsTop u) (sym same) (keeps_top top (top_not c off.parent) (top_not y child_y) w.at_top);
          fork = ap (λ (z : Run). z.fork) (sym alike) ∙ fork ∙ w.fork ∙ sym (off.others top (top_not c off.parent)) ∙ ap (parent_of u) (sym same);
          steps = e.steps + suc w.steps;
          way = subst (λ q. IsWay u (e.steps + suc w.steps) q d) bottoms (subst (IsWay u (e.steps + suc w.steps) ry.bottom) (sym same) joined);
          ends = subst (IsEnd u merged) bottoms (ends_other ry.bottom y_bottom (whole_end t runs ry.bottom ry.low e.low));
          low = λ fails. subst (IsBottom u merged r.bottom) lows (subst (λ q. IsBottom u merged q ry.low) bottoms (bottoms_other ry.bottom ry.low y_bottom (λ x. fails (x ∙ ap (λ z. Some z) bottoms)) e.low));
        }

    but_root : (d : Rev) (r : Run) → d ≡ c → lone ≡ r → IsRunBut u rt.fork merged d r
    but_root d r same alike =
        let e = h.each c rc at_c in
        let bottoms : rc.bottom ≡ r.bottom = sym lone_bottom ∙ ap (λ (z : Run). z.bottom) alike in
        let lows : rc.low ≡ r.low = sym lone_low ∙ ap (λ (z : Run). z.low) alike in
        record {
          at_top = subst (IsTop u) (sym same) (off.known c ∙ e.at_top.0, inl off.none);
          fork = ap (λ (z : Run). z.fork) (sym alike) ∙ lone_fork ∙ sym off.none ∙ ap (parent_of u) (sym same);
          steps = e.steps;
          way = subst (λ q. IsWay u e.steps q d) bottoms (subst (IsWay u e.steps rc.bottom) (sym same) (way_map t u only_stays e.steps rc.bottom c e.way));
          ends = subst (IsEnd u merged) bottoms (ends_other rc.bottom c_bottom (whole_end t runs rc.bottom rc.low e.low));
          low = λ fails. subst (IsBottom u merged r.bottom) lows (subst (λ q. IsBottom u merged q rc.low) bottoms (bottoms_other rc.bottom rc.low c_bottom (λ x. fails (x ∙ ap (λ z. Some z) bottoms)) e.low));
        }

    but_kept : (d : Rev) (r : Run) → same_rev d top ≡ false → same_rev d y ≡ false → same_rev d c ≡ false → get runs d ≡ Some r → IsRunBut u rt.fork merged d r
    but_kept d r s k z is =
        let e = h.each d r is in
        record {
          at_top = keeps_top d z k e.at_top;
          fork = e.fork ∙ sym (off.others d z);
          steps = e.steps;
          way = way_map t u only_stays e.steps r.bottom d e.way;
          ends = ends_other r.bottom (not_here d r is s) (whole_end t runs r.bottom r.low e.low);
          low = λ fails. bottoms_other r.bottom r.low (not_here d r is s) fails e.low;
        }

    pub merged_runs : AreRunsBut u rt.fork merged
    merged_runs = record {
      each = λ d r is. cases d
          (λ s. but_top d r (same_key-equal revs d top s) (same_Some lower r (sym (m_top d s) ∙ is)))
          (λ s k. absurd (none-some r (sym (m_y d s k) ∙ is)))
          (λ s k z. but_root d r (same_key-equal revs d c z) (same_Some lone r (sym (m_c d s k z) ∙ is)))
          (λ s k z. but_kept d r s k z (sym (m_other d s k z) ∙ is));
      all = λ r top_r. cases r
          (λ s. (lower, m_top r s))
          (λ s k. absurd (top_not_only u y p (subst (IsTop u) (same_key-equal revs r y k) top_r) only_y))
          (λ s k z. (lone, m_c r s k z))
          (λ s k z. let x = h.all r (top_was r z top_r) in (x.0, m_other r s k z ∙ x.1));
      fork = λ b is. (top, record { run = lower; is = m_top top (same_itself top); fork = fork ∙ is });
    }
