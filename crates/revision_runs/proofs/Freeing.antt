-- What is found while a child of a fork becomes a root.
use Rattle.std.specs.Prelude.{◌≡◌, ◌≢◌, ◌⊎◌, ℕ, ◌+◌, ◌≤◌, true, false, Option, Some, None, refl}
use Rattle.std.proofs.Common.{sym, ap, subst, ◌∙◌, ⊎_elim, inl, inr, arith}
use Rattle.std.proofs.lemmas.Option.{none-some, same_Some}
use Rattle.model.specs.Map.{get, put, same_map, without, same_key-equal}
use Rattle.model.specs.Revision.{Rev, revs, same_rev}
use Rattle.model.specs.Tree.{Tree, IsForest, knows, parent_of}
use Rattle.model.proofs.ListLaws.{by_cases}
use Rattle.model.proofs.LookupLaws.{get-put_same, get-put_other, get-without_same, get-without_other}
use Rattle.model.proofs.TreeLaws.{knows_child}
use Rattle.revision_runs.specs.declared.run.Run.{Run}
use Rattle.revision_runs.specs.Runs.{RunMap, EndsAt, HangsUnder}
use Rattle.revision_runs.specs.TreeRuns.{IsOnlyChild, IsOneChild, IsTop, AreRuns, AreRunsBut}
use Rattle.revision_runs.specs.Changes.{IsUnlinked}
use Rattle.revision_runs.proofs.Climbing.{ends_at}
use Rattle.revision_runs.proofs.Lows.{way_older}
use Rattle.revision_runs.proofs.Moving.{not_same, other_of, whole}
use Rattle.revision_runs.proofs.Unlinking.{freed_runs, merged_runs}

-- a run put back where it was
pub put_back : (runs : RunMap) (top : Rev) (run : Run) → get runs top ≡ Some run → put (without runs top) top run ≡ runs
put_back runs top run is = same_map {O = revs} (put (without runs top) top run) runs (λ q. by_cases (same_rev q top)
    (λ s. get-put_same {O = revs} (without runs top) top run q s ∙ sym is ∙ ap (get runs) (sym (same_key-equal revs q top s)))
    (λ s. get-put_other {O = revs} (without runs top) top run q s ∙ get-without_other {O = revs} runs top q s))

module _ (t u : Tree) (c p : Rev) (before : IsForest t) (off : IsUnlinked t u c p) (two : IsOneChild t p c) (runs : RunMap) (h : AreRuns t runs) (lone : Run) (lone_fork : lone.fork ≡ None) where
  top_c : IsTop t c
  top_c = (knows_child t c p off.parent, inr (p, two))

  pub run_c : (run : Run) × (get runs c ≡ Some run)
  run_c = h.all c top_c

  -- each child of the fork is a top
  top_child : (d : Rev) → parent_of t d ≡ Some p → IsTop t d
  top_child d up = by_cases (same_rev d c)
      (λ s. subst (IsTop t) (sym (same_key-equal revs d c s)) top_c)
      (λ s. (knows_child t d p up, inr (p, record { child = up; other = c; sibling = off.parent; apart = λ e. not_same d c s (sym e) })))

  abbrev pub freed : RunMap
  freed = put runs c lone

  pub freed_hangs : (d : Rev) → parent_of t d ≡ Some p → same_rev d c ≡ false → HangsUnder freed p d
  freed_hangs d up s =
      let x = h.all d (top_child d up) in
      record { run = x.0; is = get-put_other runs c lone d s ∙ x.1; fork = (h.each d x.0 x.1).fork ∙ up }

  pub some_hangs : (d : Rev) × HangsUnder freed p d
  some_hangs = (two.other, freed_hangs two.other two.sibling (other_of two.other c two.apart))

  pub record IsFreed (d : Rev) (run : Run) : Type 0 where
    pub other : same_rev d c ≡ false
    pub is : get runs d ≡ Some run
    pub child : parent_of t d ≡ Some p

  pub freed_child : (d : Rev) (x : HangsUnder freed p d) → IsFreed d x.run
  freed_child d x = by_cases (same_rev d c)
      (λ s. absurd (none-some p (sym lone_fork ∙ ap (λ (r : Run). r.fork) (same_Some lone x.run (sym (get-put_same runs c lone d s) ∙ x.is)) ∙ x.fork)))
      (λ s.
      let is = sym (get-put_other runs c lone d s) ∙ x.is in
      record { other = s; is = is; child = sym ((h.each d x.run is).fork) ∙ x.fork })

  module _ (y : Rev) (hung : HangsUnder freed p y) where
    abbrev pub others : RunMap
    others = without freed y

    -- what is left under the fork besides
    pub left_hangs : (d : Rev) (x : HangsUnder others p d) → (same_rev d y ≡ false) × HangsUnder freed p d
    left_hangs d x = by_cases (same_rev d y)
        (λ s. absurd (none-some x.run (sym (get-without_same {O = revs} freed y d s) ∙ x.is)))
        (λ s. (s, record { run = x.run; is = sym (get-without_other {O = revs} freed y d s) ∙ x.is; fork = x.fork }))

    pub only_left : ((d : Rev) → HangsUnder others p d → ⊥) → IsOnlyChild u p y
    only_left none =
        let f = freed_child y hung in
        record {
          child = off.others y f.other ∙ f.child;
          only = λ d up. by_cases (same_rev d c)
              (λ s. absurd (none-some p (sym off.none ∙ ap (parent_of u) (sym (same_key-equal revs d c s)) ∙ up)))
              (λ s. by_cases (same_rev d y)
              (λ k. same_key-equal revs d y k)
              (λ k.
              let x = freed_hangs d (sym (off.others d s) ∙ up) s in
              absurd (none d (record { run = x.run; is = get-without_other {O = revs} freed y d k ∙ x.is; fork = x.fork }))));
        }

    -- a run ends at the fork, and is neither of these two
    kept_end : (d : Rev) (x : EndsAt runs p d) → EndsAt others p d
    kept_end d x =
        let w = h.each d x.run x.is in
        let older = way_older t before w.steps x.run.bottom d w.way in
        let g = ap (λ (q : Rev). q.generation) x.bottom in
        let kc = (before.parents c p off.parent).1 in
        let fy = freed_child y hung in
        let ky = (before.parents y p fy.child).1 in
        let not_c : same_rev d c ≡ false = other_of d c (λ e. let k = ap (λ (q : Rev). q.generation) e in omega (arith, older, g, kc, k)) in
        let not_y : same_rev d y ≡ false = other_of d y (λ e. let k = ap (λ (q : Rev). q.generation) e in omega (arith, older, g, ky, k)) in
        record { run = x.run; is = get-without_other {O = revs} freed y d not_y ∙ get-put_other runs c lone d not_c ∙ x.is; bottom = x.bottom }

    pub some_ends : (d : Rev) × EndsAt others p d
    some_ends = let x = ends_at t before None runs (whole t runs h) p c two in (x.0, kept_end x.0 x.1)

    -- it was there before
    pub had_end : (d : Rev) (x : EndsAt others p d) → same_rev d c ≡ false → get runs d ≡ Some x.run
    had_end d x s = by_cases (same_rev d y)
        (λ k. absurd (none-some x.run (sym (get-without_same {O = revs} freed y d k) ∙ x.is)))
        (λ k. sym (get-put_other runs c lone d s) ∙ sym (get-without_other {O = revs} freed y d k) ∙ x.is)

    pub end_not_c : (rc : Run) → get runs c ≡ Some rc → lone.bottom ≡ rc.bottom → (d : Rev) → EndsAt others p d → same_rev d c ≡ false
    end_not_c rc at_c bottom d x = by_cases (same_rev d c)
        (λ s.
        let w = h.each c rc at_c in
        let older = way_older t before w.steps rc.bottom c w.way in
        let kc = (before.parents c p off.parent).1 in
        by_cases (same_rev d y)
        (λ k. absurd (none-some x.run (sym (get-without_same {O = revs} freed y d k) ∙ x.is)))
        (λ k.
        let alike : lone ≡ x.run = same_Some lone x.run (sym (get-put_same runs c lone d s) ∙ sym (get-without_other {O = revs} freed y d k) ∙ x.is) in
        let ends : rc.bottom ≡ p = sym bottom ∙ ap (λ (r : Run). r.bottom) alike ∙ x.bottom in
        let g = ap (λ (q : Rev). q.generation) ends in
        absurd (omega (arith, older, kc, g))))
        (λ s. s)

    module _ (rc : Run) (at_c : get runs c ≡ Some rc) (lone_bottom : lone.bottom ≡ rc.bottom) (lone_low : lone.low ≡ rc.low) (left : Run) (at_left : get freed y ≡ Some left) where
      pub still_forked : (d : Rev) (x : HangsUnder others p d) → AreRunsBut u (Some p) (put others y left)
      still_forked d x =
          let l = left_hangs d x in
          let fy = freed_child y hung in
          let fd = freed_child d l.1 in
          subst (λ (m : RunMap). AreRunsBut u (Some p) m) (sym (put_back freed y left at_left))
          (freed_runs t u c p before off runs h rc at_c lone lone_fork lone_bottom lone_low y d fy.child fd.child fy.other fd.other (λ e. not_same d y l.0 (sym e)) hung.run fy.is)

      pub joins : ((d : Rev) → HangsUnder others p d → ⊥) → (top : Rev) (run wide : Run) → get others top ≡ Some run → run.bottom ≡ p → wide.fork ≡ run.fork → wide.bottom ≡ left.bottom → wide.low ≡ left.low
          → AreRunsBut u run.fork (put others top wide)
      joins none top run wide is ends fork bottom low =
          let fy = freed_child y hung in
          let alike : hung.run ≡ left = same_Some hung.run left (sym hung.is ∙ at_left) in
          let at_y : get runs y ≡ Some left = fy.is ∙ ap (λ (r : Run). Some r) alike in
          let x : EndsAt others p top = record { run = run; is = is; bottom = ends } in
          let at : get runs top ≡ Some run = had_end top x (end_not_c rc at_c lone_bottom top x) in
          merged_runs t u c p before off runs h rc at_c lone lone_fork lone_bottom lone_low y (only_left none) left at_y top run at ends wide fork bottom low
