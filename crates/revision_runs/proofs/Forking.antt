-- The runs of a tree in which a root becomes the child of a fork.
use Rattle.std.specs.Prelude.{◌≡◌, ◌⊎◌, ℕ, ◌+◌, ◌≤◌, true, false, Option, Some, None, refl}
use Rattle.std.proofs.Common.{sym, ap, subst, ◌∙◌, ⊎_elim, inl, inr, arith}
use Rattle.std.proofs.lemmas.Option.{none-some, same_Some}
use Rattle.model.specs.Map.{get, put, same_key-equal}
use Rattle.model.specs.Revision.{Rev, revs, same_rev}
use Rattle.model.specs.Tree.{Tree, IsForest, knows, parent_of}
use Rattle.model.proofs.ListLaws.{by_cases}
use Rattle.model.proofs.LookupLaws.{get-put_same, get-put_other}
use Rattle.revision_runs.specs.declared.run.Run.{Run}
use Rattle.revision_runs.specs.Runs.{RunMap, HangsUnder}
use Rattle.revision_runs.specs.TreeRuns.{IsOnlyChild, IsOneChild, IsWay, IsTop, IsBottom, AreRuns, IsEnd, IsRunBut, AreRunsBut}
use Rattle.revision_runs.specs.Changes.{IsLinked}
use Rattle.revision_runs.proofs.Climbing.{top_not_only}
use Rattle.revision_runs.proofs.Linking.{leaf_other, parent_stays, parent_was, top_stays, younger}
use Rattle.revision_runs.proofs.Lows.{sibling_top, way_older}
use Rattle.revision_runs.proofs.Moving.{IsSameUnder, moved_bottom, moved_end, not_same, other_of, same_itself, under_end, way_map, whole_end}

module _ (t u : Tree) (c p : Rev) (before : IsForest t) (after : IsForest u) (link : IsLinked t u c p) (runs : RunMap) (h : AreRuns t runs) (d0 : Rev) (under : HangsUnder runs p d0)
    (rc : Run) (at_c : get runs c ≡ Some rc) (hangs : Run) (fork : hangs.fork ≡ Some p) (bottom : hangs.bottom ≡ rc.bottom) (low : hangs.low ≡ rc.low) where
  child0 : parent_of t d0 ≡ Some p
  child0 = sym ((h.each d0 under.run under.is).fork) ∙ under.fork

  not_only : (x : Rev) → IsOnlyChild t p x → ⊥
  not_only x o = top_not_only t d0 p ((h.each d0 under.run under.is).at_top) (subst (IsOnlyChild t p) (sym (o.only d0 child0)) o)

  only_stays : (q x : Rev) → IsOnlyChild t q x → IsOnlyChild u q x
  only_stays q x o = record {
    child = parent_stays t u c p after link x q o.child;
    only = λ d up. ⊎_elim
        (λ e. absurd (not_only x (subst (λ z. IsOnlyChild t z x) e.1 o)))
        (λ was. o.only d was)
        (parent_was t u c p after link d q up);
  }

  top_was : (r : Rev) → same_rev r c ≡ false → IsTop u r → IsTop t r
  top_was r s top = (sym (link.known r) ∙ top.0, ⊎_elim (λ none. inl (sym (link.others r s) ∙ none)) (λ o. at o.0 o.1) top.1)
    where
      at : (q : Rev) → IsOneChild u q r → (parent_of t r ≡ None) ⊎ ((q : Rev) × IsOneChild t q r)
      at q o = ⊎_elim
          (λ e. absurd (not_same r c s e.0))
          (λ was. ⊎_elim
          (λ e. (sibling_top t before runs h p d0 under.run under.is under.fork r (was ∙ ap (λ z. Some z) e.1)).1)
          (λ other. inr (q, record { child = was; other = o.other; sibling = other; apart = o.apart }))
          (parent_was t u c p after link o.other q o.sibling))
          (parent_was t u c p after link r q o.child)

  abbrev pub linked : RunMap
  linked = put runs c hangs

  linked_c : (d : Rev) → same_rev d c ≡ true → get linked d ≡ Some hangs
  linked_c d s = get-put_same runs c hangs d s

  linked_other : (d : Rev) → same_rev d c ≡ false → get linked d ≡ get runs d
  linked_other d s = get-put_other runs c hangs d s

  run_c : (d : Rev) (r : Run) → same_rev d c ≡ true → get runs d ≡ Some r → rc ≡ r
  run_c d r s is = same_Some rc r (sym at_c ∙ ap (get runs) (sym (same_key-equal revs d c s)) ∙ is)

  unhung : rc.fork ≡ None
  unhung = (h.each c rc at_c).fork ∙ link.none

  same_under : (q : Rev) → (q ≡ p → ⊥) → IsSameUnder runs linked q
  same_under q other = record {
    to = λ d r is at. by_cases (same_rev d c)
        (λ s. absurd (none-some q (sym unhung ∙ ap (λ (x : Run). x.fork) (run_c d r s is) ∙ at)))
        (λ s. record { run = r; is = linked_other d s ∙ is; fork = at; low = refl });
    from = λ d r is at. by_cases (same_rev d c)
        (λ s. absurd (other (same_Some q p (sym at ∙ ap (λ (x : Run). x.fork) (sym (same_Some hangs r (sym (linked_c d s) ∙ is))) ∙ fork))))
        (λ s. record { run = r; is = sym (linked_other d s) ∙ is; fork = at; low = refl });
  }

  c_under : HangsUnder linked p c
  c_under = record { run = hangs; is = linked_c c (same_itself c); fork = fork }

  end_stays : (q : Rev) → IsEnd t runs q → IsEnd u linked q
  end_stays q x = by_cases (same_rev q p)
      (λ s. inr (c, subst (λ z. HangsUnder linked z c) (sym (same_key-equal revs q p s)) c_under))
      (λ s. moved_end t u runs linked q (under_end runs linked q (same_under q (not_same q p s))) (leaf_other t u c p after link q (not_same q p s)) x)

  c_bottom : rc.bottom ≡ p → ⊥
  c_bottom e =
      let w = h.each c rc at_c in
      let older = way_older t before w.steps rc.bottom c w.way in
      let g = ap (λ (q : Rev). q.generation) e in
      omega (arith, younger t u c p after link, older, g)

  top_c : IsTop u c
  top_c = (
    link.known c ∙ link.root,
    inr (
      p,
      record {
        child = link.parent;
        other = d0;
        sibling = parent_stays t u c p after link d0 p child0;
        apart = λ e. none-some p (sym link.none ∙ ap (parent_of t) (sym e) ∙ child0);
      },
    ),
  )

  but_c : (d : Rev) (r : Run) → d ≡ c → hangs ≡ r → IsRunBut u (Some p) linked d r
  but_c d r same alike =
      let e = h.each c rc at_c in
      let bottoms : rc.bottom ≡ r.bottom = sym bottom ∙ ap (λ (x : Run). x.bottom) alike in
      let lows : rc.low ≡ r.low = sym low ∙ ap (λ (x : Run). x.low) alike in
      record {
        at_top = subst (IsTop u) (sym same) top_c;
        fork = ap (λ (x : Run). x.fork) (sym alike) ∙ fork ∙ sym link.parent ∙ ap (parent_of u) (sym same);
        steps = e.steps;
        way = subst (λ q. IsWay u e.steps q d) bottoms (subst (IsWay u e.steps rc.bottom) (sym same) (way_map t u only_stays e.steps rc.bottom c e.way));
        ends = subst (IsEnd u linked) bottoms (end_stays rc.bottom (whole_end t runs rc.bottom rc.low e.low));
        low = λ fails. subst (IsBottom u linked r.bottom) lows (subst (λ q. IsBottom u linked q rc.low) bottoms (moved_bottom t u runs linked rc.bottom rc.low (same_under rc.bottom c_bottom) (leaf_other t u c p after link rc.bottom c_bottom) e.low));
      }

  but_other : (d : Rev) (r : Run) → same_rev d c ≡ false → get runs d ≡ Some r → IsRunBut u (Some p) linked d r
  but_other d r s is =
      let e = h.each d r is in
      record {
        at_top = top_stays t u c p after link d s e.at_top;
        fork = e.fork ∙ sym (link.others d s);
        steps = e.steps;
        way = way_map t u only_stays e.steps r.bottom d e.way;
        ends = end_stays r.bottom (whole_end t runs r.bottom r.low e.low);
        low = λ fails. let other = λ (x : r.bottom ≡ p). fails (ap (λ z. Some z) (sym x)) in
            moved_bottom t u runs linked r.bottom r.low (same_under r.bottom other) (leaf_other t u c p after link r.bottom other) e.low;
      }

  pub linked_to_fork : AreRunsBut u (Some p) linked
  linked_to_fork = record {
    each = λ d r is. by_cases (same_rev d c)
        (λ s. but_c d r (same_key-equal revs d c s) (same_Some hangs r (sym (linked_c d s) ∙ is)))
        (λ s. but_other d r s (sym (linked_other d s) ∙ is));
    all = λ r top_r. by_cases (same_rev r c)
        (λ s. (hangs, linked_c r s))
        (λ s. let x = h.all r (top_was r s top_r) in (x.0, linked_other r s ∙ x.1));
    fork = λ b is. (c, subst (λ z. HangsUnder linked z c) (same_Some p b is) c_under);
  }
