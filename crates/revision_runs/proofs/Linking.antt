-- The runs of a tree in which a root becomes the child of a leaf.
use Rattle.std.specs.Prelude.{◌≡◌, ◌≢◌, ◌⊎◌, ℕ, zero, suc, ◌+◌, ◌<◌, ◌≤◌, ◌||◌, Bool, true, false, Option, Some, None, refl}
use Rattle.std.proofs.Common.{sym, ap, subst, ◌∙◌, ⊎_elim, inl, inr, arith}
use Rattle.std.proofs.lemmas.Bool.{true≢false}
use Rattle.std.proofs.lemmas.Option.{none-some, same_Some}
use Rattle.model.specs.Map.{get, put, without, same_key-equal, same_key_itself}
use Rattle.model.specs.Revision.{Rev, revs, same_rev}
use Rattle.model.specs.Tree.{Tree, IsForest, is_leaf, knows, parent_of}
use Rattle.model.proofs.ListLaws.{by_cases}
use Rattle.model.proofs.LookupLaws.{get-put_same, get-put_other, get-without_same, get-without_other, apart}
use Rattle.model.proofs.TreeLaws.{is_leaf-childless, knows_child, leaf_known, no_parent_of_leaf}
use Rattle.revision_runs.specs.declared.run.Run.{Run}
use Rattle.revision_runs.specs.Runs.{RunMap, EndsAt, HangsUnder}
use Rattle.revision_runs.specs.TreeRuns.{IsOnlyChild, IsOneChild, IsWay, IsTop, IsLeastUnder, IsBottom, IsRunOf, AreRuns, IsEnd, IsRunBut, AreRunsBut}
use Rattle.revision_runs.specs.Changes.{IsLinked}
use Rattle.revision_runs.proofs.Climbing.{one_ending, top_not_only}
use Rattle.revision_runs.proofs.Lows.{way_older, sibling_top}
use Rattle.revision_runs.proofs.Moving.{HasLow, IsSameUnder, moved_bottom, moved_end, not_same, other_of, same_itself, under_end, way_join, way_map, way_map_to, whole}

-- ---- a link

module _ (t u : Tree) (c p : Rev) (after : IsForest u) (link : IsLinked t u c p) where
  pub younger : c.generation ≡ p.generation + 1
  younger = (after.parents c p link.parent).1

  -- who had a parent has it
  pub parent_stays : (q r : Rev) → parent_of t q ≡ Some r → parent_of u q ≡ Some r
  parent_stays q r up = by_cases (same_rev q c)
      (λ s. absurd (none-some r (sym link.none ∙ ap (parent_of t) (sym (same_key-equal revs q c s)) ∙ up)))
      (λ s. link.others q s ∙ up)

  -- and of the others but c none has one
  pub parent_was : (q r : Rev) → parent_of u q ≡ Some r → ((q ≡ c) × (r ≡ p)) ⊎ (parent_of t q ≡ Some r)
  parent_was q r up = by_cases (same_rev q c)
      (λ s. let e = same_key-equal revs q c s in inl (e, same_Some r p (sym up ∙ ap (parent_of u) e ∙ link.parent)))
      (λ s. inr (sym (link.others q s) ∙ up))

  pub one_stays : (q r : Rev) → IsOneChild t q r → IsOneChild u q r
  one_stays q r o = record { child = parent_stays r q o.child; other = o.other; sibling = parent_stays o.other q o.sibling; apart = o.apart }

  pub top_stays : (r : Rev) → same_rev r c ≡ false → IsTop t r → IsTop u r
  top_stays r s top = (link.known r ∙ top.0, ⊎_elim (λ none. inl (link.others r s ∙ none)) (λ o. inr (o.0, one_stays o.0 r o.1)) top.1)

  pub leaf_other : (q : Rev) → (q ≡ p → ⊥) → is_leaf t q ≡ true → is_leaf u q ≡ true
  leaf_other q other leaf =
      let h = (is_leaf-childless t q).0 leaf in
      (is_leaf-childless u q).1 (link.known q ∙ h.0, λ d up. ⊎_elim (λ e. other e.1) (λ was. h.1 d was) (parent_was d q up))

  -- ---- to a leaf

  module _ (before : IsForest t) (leaf : is_leaf t p ≡ true) where
    pub only_here : IsOnlyChild u p c
    only_here = record { child = link.parent; only = λ d up. ⊎_elim (λ e. e.0) (λ was. absurd (no_parent_of_leaf t p d leaf was)) (parent_was d p up) }

    only_stays : (q x : Rev) → IsOnlyChild t q x → IsOnlyChild u q x
    only_stays q x o = record {
      child = parent_stays x q o.child;
      only = λ d up. ⊎_elim
          (λ e. absurd (no_parent_of_leaf t p x leaf (o.child ∙ ap (λ z. Some z) e.1)))
          (λ was. o.only d was)
          (parent_was d q up);
    }

    one_was : (q r : Rev) → same_rev r c ≡ false → IsOneChild u q r → IsOneChild t q r
    one_was q r s o = record {
      child = ⊎_elim (λ e. absurd (not_same r c s e.0)) (λ was. was) (parent_was r q o.child);
      other = o.other;
      sibling = ⊎_elim
          (λ e. absurd (not_same r c s (only_here.only r (o.child ∙ ap (λ z. Some z) e.1))))
          (λ was. was)
          (parent_was o.other q o.sibling);
      apart = o.apart;
    }

    top_was : (r : Rev) → IsTop u r → (same_rev r c ≡ false) × IsTop t r
    top_was r top = by_cases (same_rev r c)
        (λ s. absurd (top_not_only u c p (subst (IsTop u) (same_key-equal revs r c s) top) only_here))
        (λ s. (s, (sym (link.known r) ∙ top.0, ⊎_elim (λ none. inl (sym (link.others r s) ∙ none)) (λ o. inr (o.0, one_was o.0 r s o.1)) top.1)))

    module _ (runs : RunMap) (h : AreRuns t runs) (rc : Run) (at_c : get runs c ≡ Some rc) (top : Rev) (rt : Run) (at : get runs top ≡ Some rt) (ends : rt.bottom ≡ p)
        (lower : Run) (fork : lower.fork ≡ rt.fork) (bottom : lower.bottom ≡ rc.bottom) (low : lower.low ≡ rc.low) where
      but : AreRunsBut t None runs
      but = whole t runs h

      ends_here : EndsAt runs p top
      ends_here = record { run = rt; is = at; bottom = ends }

      top_not_c : same_rev top c ≡ false
      top_not_c = apart {O = revs} runs c top (λ e.
          let w = h.each top rt at in
          let older = way_older t before w.steps rt.bottom top w.way in
          let b = ap (λ (q : Rev). q.generation) ends in
          let g = ap (λ (q : Rev). q.generation) e in
          omega (arith, younger, older, b, g))

      c_not_top : same_rev c top ≡ false
      c_not_top = apart {O = revs} runs top c (λ e. not_same top c top_not_c (sym e))

      abbrev pub linked : RunMap
      linked = put (without runs c) top lower

      linked_top : (r : Rev) → same_rev r top ≡ true → get linked r ≡ Some lower
      linked_top r s = get-put_same (without runs c) top lower r s

      linked_c : get linked c ≡ None
      linked_c = get-put_other (without runs c) top lower c c_not_top ∙ get-without_same runs c c (same_itself c)

      linked_other : (r : Rev) → same_rev r top ≡ false → same_rev r c ≡ false → get linked r ≡ get runs r
      linked_other r s k = get-put_other (without runs c) top lower r s ∙ get-without_other runs c r k

      c_unhung : rc.fork ≡ None
      c_unhung = (h.each c rc at_c).fork ∙ link.none

      -- what hangs under a fork, as before
      kept_hung : (q d : Rev) → HangsUnder runs q d → HangsUnder linked q d
      kept_hung q d x = by_cases (same_rev d top)
          (λ s.
          let alike : rt ≡ x.run = same_Some rt x.run (sym at ∙ ap (get runs) (sym (same_key-equal revs d top s)) ∙ x.is) in
          record { run = lower; is = linked_top d s; fork = fork ∙ ap (λ (r : Run). r.fork) alike ∙ x.fork })
          (λ s. by_cases (same_rev d c)
          (λ k.
          let alike : rc ≡ x.run = same_Some rc x.run (sym at_c ∙ ap (get runs) (sym (same_key-equal revs d c k)) ∙ x.is) in
          absurd (none-some q (sym c_unhung ∙ ap (λ (r : Run). r.fork) alike ∙ x.fork)))
          (λ k. record { run = x.run; is = linked_other d s k ∙ x.is; fork = x.fork }))

      kept_least : (q : Rev) (m : ℕ) → (rt.fork ≡ Some q → ⊥) → IsLeastUnder runs q m → IsLeastUnder linked q m
      kept_least q m not_above l =
          let s : same_rev l.top top ≡ false = apart {O = revs} runs top l.top (λ e. not_above (ap (λ (r : Run). r.fork) (same_Some rt l.run (sym at ∙ ap (get runs) (sym e) ∙ l.is)) ∙ l.fork)) in
          let k : same_rev l.top c ≡ false = apart {O = revs} runs c l.top (λ e. none-some q (sym c_unhung ∙ ap (λ (r : Run). r.fork) (same_Some rc l.run (sym at_c ∙ ap (get runs) (sym e) ∙ l.is)) ∙ l.fork)) in
          record {
            top = l.top;
            run = l.run;
            is = linked_other l.top s k ∙ l.is;
            fork = l.fork;
            low = l.low;
            least = λ d r is under. by_cases (same_rev d top)
                (λ y. absurd (not_above (sym fork ∙ ap (λ (x : Run). x.fork) (same_Some lower r (sym (linked_top d y) ∙ is)) ∙ under)))
                (λ y. by_cases (same_rev d c)
                (λ z. absurd (none-some r (sym linked_c ∙ ap (get linked) (sym (same_key-equal revs d c z)) ∙ is)))
                (λ z. l.least d r (sym (linked_other d y z) ∙ is) under));
          }

      kept_end : (q : Rev) → (q ≡ p → ⊥) → IsEnd t runs q → IsEnd u linked q
      kept_end q other e = ⊎_elim (λ l. inl (leaf_other q other l)) (λ x. inr (x.0, kept_hung q x.0 x.1)) e

      kept_bottom : (q : Rev) (m : ℕ) → (q ≡ p → ⊥) → (rt.fork ≡ Some q → ⊥) → IsBottom t runs q m → IsBottom u linked q m
      kept_bottom q m other not_above x = ⊎_elim (λ l. inl (leaf_other q other l.0, l.1)) (λ l. inr (kept_least q m not_above l)) x

      -- no other run ended at the leaf
      not_here : (d : Rev) (r : Run) → get runs d ≡ Some r → same_rev d top ≡ false → r.bottom ≡ p → ⊥
      not_here d r is s e = not_same d top s (one_ending t before None runs but p d top (record { run = r; is = is; bottom = e }) ends_here)

      joined : IsWay u ((h.each c rc at_c).steps + suc (h.each top rt at).steps) rc.bottom top
      joined =
          let e = h.each c rc at_c in
          let w = h.each top rt at in
          way_join u e.steps w.steps rc.bottom c p top (way_map t u only_stays e.steps rc.bottom c e.way) only_here
          (way_map t u only_stays w.steps p top (subst (λ q. IsWay t w.steps q top) ends w.way))

      run_top : (d : Rev) (r : Run) → d ≡ top → lower ≡ r → IsRunBut u rt.fork linked d r
      run_top d r same alike =
          let e = h.each c rc at_c in
          let w = h.each top rt at in
          let bottoms : rc.bottom ≡ r.bottom = sym bottom ∙ ap (λ (x : Run). x.bottom) alike in
          let lows : rc.low ≡ r.low = sym low ∙ ap (λ (x : Run). x.low) alike in
          let c_ends : rc.bottom ≡ p → ⊥ = not_here c rc at_c c_not_top in
          record {
            at_top = subst (IsTop u) (sym same) (top_stays top top_not_c w.at_top);
            fork = ap (λ (x : Run). x.fork) (sym alike) ∙ fork ∙ w.fork ∙ sym (link.others top top_not_c) ∙ ap (parent_of u) (sym same);
            steps = e.steps + suc w.steps;
            way = subst (λ q. IsWay u (e.steps + suc w.steps) q d) bottoms (subst (IsWay u (e.steps + suc w.steps) rc.bottom) (sym same) joined);
            ends = subst (IsEnd u linked) bottoms (kept_end rc.bottom c_ends ((but.each c rc at_c).ends));
            low = λ fails. subst (IsBottom u linked r.bottom) lows (subst (λ q. IsBottom u linked q rc.low) bottoms
                (kept_bottom rc.bottom rc.low c_ends (λ x. fails (x ∙ ap (λ z. Some z) bottoms)) e.low));
          }

      run_other : (d : Rev) (r : Run) → same_rev d top ≡ false → same_rev d c ≡ false → get runs d ≡ Some r → IsRunBut u rt.fork linked d r
      run_other d r s k is =
          let e = h.each d r is in
          record {
            at_top = top_stays d k e.at_top;
            fork = e.fork ∙ sym (link.others d k);
            steps = e.steps;
            way = way_map t u only_stays e.steps r.bottom d e.way;
            ends = kept_end r.bottom (not_here d r is s) ((but.each d r is).ends);
            low = λ fails. kept_bottom r.bottom r.low (not_here d r is s) fails e.low;
          }

      pub linked_to_leaf : AreRunsBut u rt.fork linked
      linked_to_leaf = record {
        each = λ d r is. by_cases (same_rev d top)
            (λ s. run_top d r (same_key-equal revs d top s) (same_Some lower r (sym (linked_top d s) ∙ is)))
            (λ s. by_cases (same_rev d c)
            (λ k. absurd (none-some r (sym linked_c ∙ ap (get linked) (sym (same_key-equal revs d c k)) ∙ is)))
            (λ k. run_other d r s k (sym (linked_other d s k) ∙ is)));
        all = λ r top_r.
            let was = top_was r top_r in
            by_cases (same_rev r top)
            (λ s. (lower, linked_top r s))
            (λ s. let x = h.all r was.1 in (x.0, linked_other r s was.0 ∙ x.1));
        fork = λ b is. (top, record { run = lower; is = linked_top top (same_itself top); fork = fork ∙ is });
      }
