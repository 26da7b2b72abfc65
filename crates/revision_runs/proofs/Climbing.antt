-- The runs of a tree by their bottoms, and a step up from a fork whose nearest leaf has changed.
use Rattle.std.specs.Prelude.{◌≡◌, ◌≢◌, ◌⊎◌, ℕ, zero, suc, ◌+◌, ◌<◌, ◌≤◌, true, false, Option, Some, None, refl}
use Rattle.std.proofs.Common.{sym, ap, subst, ◌∙◌, ⊎_elim, inl, inr, arith}
use Rattle.std.proofs.lemmas.Bool.{true≢false}
use Rattle.std.proofs.lemmas.Option.{none-some, same_Some}
use Rattle.model.specs.Map.{get, put, same_key-equal, same_key_itself}
use Rattle.model.specs.Revision.{Rev, revs, same_rev}
use Rattle.model.specs.Tree.{Tree, IsForest, is_leaf, knows, parent_of}
use Rattle.model.proofs.ListLaws.{by_cases}
use Rattle.model.proofs.LookupLaws.{get-put_same, get-put_other, put-cases, apart}
use Rattle.model.proofs.TreeLaws.{knows_child, leaf_known, no_parent_of_leaf}
use Rattle.revision_runs.specs.declared.run.Run.{Run}
use Rattle.revision_runs.specs.Runs.{RunMap, EndsAt, HangsUnder, IsNearestUnder}
use Rattle.revision_runs.specs.TreeRuns.{IsOnlyChild, IsOneChild, IsWay, IsTop, IsLeastUnder, IsBottom, IsRunOf, AreRuns, IsEnd, IsRunBut, AreRunsBut, IsOlder, height}
use Rattle.revision_runs.proofs.Dues.{child_cases}
use Rattle.revision_runs.proofs.Lows.{way_older}

-- ---- ways

-- the last step of a way apart
pub record IsLastOf (t : Tree) (n : ℕ) (b r : Rev) : Type 0 where
  pub child : Rev
  pub way : IsWay t n b child
  pub only : IsOnlyChild t r child

pub way_last : (t : Tree) (n : ℕ) (b r : Rev) → IsWay t (suc n) b r → IsLastOf t n b r
way_last t zero b r way = record { child = b; way = refl; only = subst (λ q. IsOnlyChild t q b) way.2 way.1 }
way_last t (suc n) b r way =
    let l = way_last t n way.0 r way.2 in
    record { child = l.child; way = (way.0, way.1, l.way); only = l.only }

-- a top is no only child
pub top_not_only : (t : Tree) (r p : Rev) → IsTop t r → IsOnlyChild t p r → ⊥
top_not_only t r p top only = ⊎_elim
    (λ none. none-some p (sym none ∙ only.child))
    (λ o. let same : o.0 ≡ p = same_Some o.0 p (sym o.1.child ∙ only.child) in
    o.1.apart (only.only o.1.other (o.1.sibling ∙ ap (λ q. Some q) same)))
    top.1

-- ways from one bottom to tops lead to one top
pub same_top : (t : Tree) (m n : ℕ) (b r s : Rev) → IsTop t r → IsTop t s → IsWay t m b r → IsWay t n b s → r ≡ s
same_top t zero zero b r s top other way to = sym way ∙ to
same_top t zero (suc n) b r s top other way to = absurd (top_not_only t b to.0 (subst (IsTop t) (sym way) top) to.1)
same_top t (suc m) zero b r s top other way to = absurd (top_not_only t b way.0 (subst (IsTop t) (sym to) other) way.1)
same_top t (suc m) (suc n) b r s top other way to =
    let same : to.0 ≡ way.0 = same_Some to.0 way.0 (sym to.1.child ∙ way.1.child) in
    same_top t m n way.0 r s top other way.2 (subst (λ q. IsWay t n q s) same to.2)

-- ---- each known revision lies on the way of a run

module _ (t : Tree) (f : IsForest t) (hole : Option Rev) (runs : RunMap) (h : AreRunsBut t hole runs) where
  pub record IsOn (r : Rev) : Type 0 where
    pub top : Rev
    pub run : Run
    pub is : get runs top ≡ Some run
    pub below : ℕ
    pub up : IsWay t below run.bottom r

  hangs_twice : (b c : Rev) → HangsUnder runs b c → IsOneChild t b c
  hangs_twice b c x = ⊎_elim
      (λ none. absurd (none-some b (sym none ∙ up)))
      (λ o. let same : o.0 ≡ b = same_Some o.0 b (sym o.1.child ∙ up) in
      record { child = up; other = o.1.other; sibling = o.1.sibling ∙ ap (λ q. Some q) same; apart = o.1.apart })
      ((h.each c x.run x.is).at_top.1)
    where
      up : parent_of t c ≡ Some b
      up = sym ((h.each c x.run x.is).fork) ∙ x.fork

  -- a revision with one child is no end of a run
  pub end_not_only : (b r : Rev) → IsEnd t runs b → IsOnlyChild t b r → ⊥
  end_not_only b r end only = ⊎_elim
      (λ leaf. no_parent_of_leaf t b r leaf only.child)
      (λ x. let two = hangs_twice b x.0 x.1 in two.apart (only.only two.other two.sibling ∙ sym (only.only x.0 two.child)))
      end

  on_at_top : (r : Rev) → IsTop t r → IsOn r
  on_at_top r top = let x = h.all r top in let e = h.each r x.0 x.1 in record { top = r; run = x.0; is = x.1; below = e.steps; up = e.way }

  on_down : (r p : Rev) → IsOnlyChild t p r → (x : IsOn p) → (n : ℕ) → IsWay t n x.run.bottom p → IsOn r
  on_down r p only x zero up = absurd (end_not_only p r (subst (IsEnd t runs) up (h.each x.top x.run x.is).ends) only)
  on_down r p only x (suc n) up =
      let l = way_last t n x.run.bottom p up in
      record { top = x.top; run = x.run; is = x.is; below = n; up = subst (IsWay t n x.run.bottom) (only.only l.child l.only.child) l.way }

  on_at : (fuel : ℕ) → ((p : Rev) → knows t p ≡ true → p.generation ≤ fuel → IsOn p) → (r : Rev) → knows t r ≡ true → r.generation ≤ suc fuel → (o : Option Rev) → parent_of t r ≡ o → IsOn r
  on_at fuel above r k le None up = on_at_top r (k, inl up)
  on_at fuel above r k le (Some p) up = ⊎_elim
      (λ one. on_at_top r (k, inr (p, one)))
      (λ only. let g = f.parents r p up in let x = above p g.0 (omega (arith, le, g.1)) in on_down r p only x x.below x.up)
      (child_cases t p r up)

  pub on_run : (fuel : ℕ) (r : Rev) → knows t r ≡ true → r.generation ≤ fuel → IsOn r
  on_run zero r k le = let some = f.generations r k in absurd (omega (arith, le, some))
  on_run (suc fuel) r k le = on_at fuel (on_run fuel) r k le (parent_of t r) refl

  -- a run ends at a parent of two
  pub ends_at : (b c : Rev) → IsOneChild t b c → (top : Rev) × EndsAt runs b top
  ends_at b c two =
      let g = f.parents c b two.child in
      let x = on_run b.generation b g.0 (omega arith) in
      at x x.below x.up
    where
      at : (x : IsOn b) → (n : ℕ) → IsWay t n x.run.bottom b → (top : Rev) × EndsAt runs b top
      at x zero up = (x.top, record { run = x.run; is = x.is; bottom = up })
      at x (suc n) up = let l = way_last t n x.run.bottom b up in
          absurd (two.apart (l.only.only two.other two.sibling ∙ sym (l.only.only c two.child)))

  pub ends_at_leaf : (b : Rev) → is_leaf t b ≡ true → (top : Rev) × EndsAt runs b top
  ends_at_leaf b leaf =
      let x = on_run b.generation b (leaf_known t b leaf) (omega arith) in
      at x x.below x.up
    where
      at : (x : IsOn b) → (n : ℕ) → IsWay t n x.run.bottom b → (top : Rev) × EndsAt runs b top
      at x zero up = (x.top, record { run = x.run; is = x.is; bottom = up })
      at x (suc n) up = let l = way_last t n x.run.bottom b up in absurd (no_parent_of_leaf t b l.child leaf l.only.child)

  pub one_ending : (b top other : Rev) → EndsAt runs b top → EndsAt runs b other → top ≡ other
  one_ending b top other x y =
      let e = h.each top x.run x.is in
      let g = h.each other y.run y.is in
      same_top t e.steps g.steps b top other e.at_top g.at_top (subst (λ q. IsWay t e.steps q top) x.bottom e.way) (subst (λ q. IsWay t g.steps q other) y.bottom g.way)

  pub hole_ends : (b : Rev) → hole ≡ Some b → (top : Rev) × EndsAt runs b top
  hole_ends b is = let x = h.fork b is in ends_at b x.0 (hangs_twice b x.0 x.1)

-- ---- no hole

pub no_hole : (t : Tree) (runs : RunMap) → AreRunsBut t None runs → AreRuns t runs
no_hole t runs h = record {
  each = λ top run is. let e = h.each top run is in record { at_top = e.at_top; fork = e.fork; steps = e.steps; way = e.way; low = e.low (λ x. none-some run.bottom x) };
  all = h.all;
}

-- ---- a step

module _ (t : Tree) (f : IsForest t) (b : Rev) (runs : RunMap) (h : AreRunsBut t (Some b) runs) (near : Rev) (n : IsNearestUnder runs b near) (top : Rev) (run : Run) (at : get runs top ≡ Some run) (ends : run.bottom ≡ b) where
  ends_here : EndsAt runs b top
  ends_here = record { run = run; is = at; bottom = ends }

  least : IsLeastUnder runs b n.run.low
  least = record { top = near; run = n.run; is = n.is; fork = n.fork; low = refl; least = n.least }

  run_at : (r : Run) → get runs top ≡ Some r → run ≡ r
  run_at r is = same_Some run r (sym at ∙ is)

  pub step_ends : run.low ≡ n.run.low → AreRunsBut t None runs
  step_ends same = record {
    each = λ u r is. let e = h.each u r is in record {
      at_top = e.at_top;
      fork = e.fork;
      steps = e.steps;
      way = e.way;
      ends = e.ends;
      low = λ fails. by_cases (same_rev r.bottom b)
          (λ s.
          let here = same_key-equal revs r.bottom b s in
          let one : u ≡ top = one_ending t f (Some b) runs h b u top (record { run = r; is = is; bottom = here }) ends_here in
          let alike : run ≡ r = run_at r (ap (get runs) (sym one) ∙ is) in
          let low : n.run.low ≡ r.low = sym same ∙ ap (λ (x : Run). x.low) alike in
          inr (subst (IsLeastUnder runs r.bottom) low (subst (λ q. IsLeastUnder runs q n.run.low) (sym here) least)))
          (λ s. e.low (λ x. true≢false (sym (subst (λ q. same_rev q b ≡ true) (same_Some b r.bottom x) (same_key_itself revs b)) ∙ s)));
    };
    all = h.all;
    fork = λ c none. absurd (none-some c none);
  }

  module _ (lower : Run) (fork : lower.fork ≡ run.fork) (bottom : lower.bottom ≡ run.bottom) (low : lower.low ≡ n.run.low) where
    abbrev pub after : RunMap
    after = put runs top lower

    -- the run above hangs not under its own bottom
    above : lower.fork ≡ Some b → ⊥
    above x =
        let e = h.each top run at in
        let up : parent_of t top ≡ Some b = sym e.fork ∙ sym fork ∙ x in
        let g = f.parents top b up in
        let older = way_older t f e.steps run.bottom top e.way in
        let same = ap (λ (q : Rev). q.generation) ends in
        omega (arith, g.1, older, same)

    -- what hangs under another than the fork above is as before
    kept_hung : (q c : Rev) → HangsUnder runs q c → HangsUnder after q c
    kept_hung q c x = by_cases (same_rev c top)
        (λ s.
        let is : c ≡ top = same_key-equal revs c top s in
        let alike : run ≡ x.run = run_at x.run (ap (get runs) (sym is) ∙ x.is) in
        record { run = lower; is = get-put_same runs top lower c s; fork = fork ∙ ap (λ (r : Run). r.fork) alike ∙ x.fork })
        (λ s. record { run = x.run; is = get-put_other runs top lower c s ∙ x.is; fork = x.fork })

    kept_least : (q : Rev) (m : ℕ) → (lower.fork ≡ Some q → ⊥) → IsLeastUnder runs q m → IsLeastUnder after q m
    kept_least q m not_above l = record {
      top = l.top;
      run = l.run;
      is = get-put_other runs top lower l.top (apart {O = revs} runs top l.top (λ e. not_above (fork ∙ ap (λ (r : Run). r.fork) (run_at l.run (ap (get runs) (sym e) ∙ l.is)) ∙ l.fork))) ∙ l.is;
      fork = l.fork;
      low = l.low;
      least = λ u r is under. ⊎_elim
          (λ new. absurd (not_above (ap (λ (x : Run). x.fork) new.1 ∙ under)))
          (λ old. l.least u r old under)
          (put-cases runs top lower u r is);
    }

    kept_end : (q : Rev) → IsEnd t runs q → IsEnd t after q
    kept_end q e = ⊎_elim (λ leaf. inl leaf) (λ x. inr (x.0, kept_hung q x.0 x.1)) e

    kept_bottom : (q : Rev) (m : ℕ) → (lower.fork ≡ Some q → ⊥) → IsBottom t runs q m → IsBottom t after q m
    kept_bottom q m not_above x = ⊎_elim (λ leaf. inl leaf) (λ l. inr (kept_least q m not_above l)) x

    changed_run : (u : Rev) (r : Run) → u ≡ top → lower ≡ r → IsRunBut t lower.fork after u r
    changed_run u r same_top alike =
        let e = h.each top run at in
        let bottoms : r.bottom ≡ run.bottom = ap (λ (x : Run). x.bottom) (sym alike) ∙ bottom in
        let lows : lower.low ≡ r.low = ap (λ (x : Run). x.low) alike in
        let here : b ≡ r.bottom = sym ends ∙ sym bottoms in
        record {
          at_top = subst (IsTop t) (sym same_top) e.at_top;
          fork = ap (λ (x : Run). x.fork) (sym alike) ∙ fork ∙ e.fork ∙ ap (parent_of t) (sym same_top);
          steps = e.steps;
          way = subst (λ q. IsWay t e.steps q u) (sym bottoms) (subst (IsWay t e.steps run.bottom) (sym same_top) e.way);
          ends = subst (IsEnd t after) (sym bottoms) (kept_end run.bottom e.ends);
          low = λ fails. inr (subst (IsLeastUnder after r.bottom) (sym low ∙ lows) (subst (λ q. IsLeastUnder after q n.run.low) here (kept_least b n.run.low above least)));
        }

    other_run : (u : Rev) (r : Run) → same_rev u top ≡ false → get runs u ≡ Some r → IsRunBut t lower.fork after u r
    other_run u r other is =
        let e = h.each u r is in
        record {
          at_top = e.at_top;
          fork = e.fork;
          steps = e.steps;
          way = e.way;
          ends = kept_end r.bottom e.ends;
          low = λ fails. kept_bottom r.bottom r.low fails (e.low (λ x.
              let here : r.bottom ≡ b = sym (same_Some b r.bottom x) in
              let one : u ≡ top = one_ending t f (Some b) runs h b u top (record { run = r; is = is; bottom = here }) ends_here in
              true≢false (sym (subst (λ q. same_rev q top ≡ true) (sym one) (same_key_itself revs top)) ∙ other)));
        }

    run_but : (u : Rev) (r : Run) → get after u ≡ Some r → IsRunBut t lower.fork after u r
    run_but u r is = by_cases (same_rev u top)
        (λ s. changed_run u r (same_key-equal revs u top s) (same_Some lower r (sym (get-put_same runs top lower u s) ∙ is)))
        (λ s. other_run u r s (sym (get-put_other runs top lower u s) ∙ is))

    pub step_next : AreRunsBut t lower.fork after
    step_next = record {
      each = run_but;
      all = λ r top_r. by_cases (same_rev r top)
          (λ s. (lower, get-put_same runs top lower r s))
          (λ s. let x = h.all r top_r in (x.0, get-put_other runs top lower r s ∙ x.1));
      fork = λ p is. (top, record { run = lower; is = get-put_same runs top lower top (same_key_itself revs top); fork = is });
    }

    pub step_older : IsOlder b lower.fork
    step_older = at_fork lower.fork refl
      where
        at_fork : (o : Option Rev) → lower.fork ≡ o → IsOlder b o
        at_fork None is = tt
        at_fork (Some p) is =
            let e = h.each top run at in
            let up : parent_of t top ≡ Some p = sym e.fork ∙ sym fork ∙ is in
            let g = f.parents top p up in
            let older = way_older t f e.steps run.bottom top e.way in
            let same = ap (λ (q : Rev). q.generation) ends in
            omega (arith, g.1, older, same)

-- ---- the climb ends

pub lower_height : (b : Rev) (o : Option Rev) → IsOlder b o → height o < height (Some b)
lower_height b None h = omega arith
lower_height b (Some p) h = omega arith
