-- A stem of a tree without a top that is too far above the leaves, and of one that has no such top.
use Rattle.std.specs.Prelude.{◌≡◌, ◌≢◌, ◌↔◌, ◌⊎◌, ℕ, zero, suc, ◌+◌, ◌<◌, ◌≤◌, ◌&&◌, Bool, true, false, not, List, Option, Some, None, option_and_then, Contains, refl}
use Rattle.std.specs.List.{list_any}
use Rattle.std.proofs.Common.{sym, ap, subst, ◌∙◌, ⊎_elim, inl, inr, arith}
use Rattle.std.proofs.lemmas.Bool.{true≢false, and_parts, and_from}
use Rattle.std.proofs.lemmas.Option.{none-some, same_Some}
use Rattle.model.specs.Map.{entries, get, same_key-equal, same_key_itself}
use Rattle.model.specs.Revision.{Rev, revs, same_rev}
use Rattle.model.specs.Tree.{Tree, Revision, IsForest, IsNear, is_at, is_leaf, has_child, knows, parent_of}
use Rattle.model.specs.TreeChange.{IsRestriction, restrict, stem}
use Rattle.model.proofs.ListLaws.{by_cases, passing_of, any_passing}
use Rattle.model.proofs.LookupLaws.{apart}
use Rattle.model.proofs.MapLaws.{Contains-entries}
use Rattle.model.proofs.RestrictLaws.{IsForest-restriction, IsLeafOf-restriction, IsRestriction-restrict, whole_restriction}
use Rattle.model.proofs.StemLaws.{near_known, stem-restriction}
use Rattle.model.proofs.TreeLaws.{child_of, is_at-equal, known_of, knows_child}
use Rattle.revision_runs.specs.declared.run.Run.{Run}
use Rattle.revision_runs.specs.Runs.{RunMap}
use Rattle.revision_runs.specs.TreeRuns.{IsLow, IsOnlyChild, IsOneChild, IsTop, AreRuns}
use Rattle.revision_runs.proofs.Lows.{no_steps, near_more, near_next, low_run, low_below}

not_true : (b : Bool) → not b ≡ true → b ≡ false
not_true true h = absurd (true≢false (sym h))
not_true false h = refl

-- ---- a child with siblings or without

module _ (t : Tree) (p r : Rev) (child : parent_of t r ≡ Some p) where
  abbrev is_sibling : Rev × Revision → Bool
  is_sibling e = is_at e.1.parent p && not (same_rev e.0 r)

  parent_at : (d : Rev) (v : Revision) → get t d ≡ Some v → v.parent ≡ Some p → parent_of t d ≡ Some p
  parent_at d v got up = ap (option_and_then (λ w. w.parent)) got ∙ up

  sibling_found : list_any is_sibling (entries t) ≡ true → IsOneChild t p r
  sibling_found holds =
      let x = passing_of is_sibling (entries t) holds in
      let both = and_parts (is_at x.element.1.parent p) (not (same_rev x.element.0 r)) x.passes in
      let got = (Contains-entries revs t x.element.0 x.element.1).0 x.listed in
      record {
        child = child;
        other = x.element.0;
        sibling = parent_at x.element.0 x.element.1 got ((is_at-equal x.element.1.parent p).0 both.0);
        apart = λ e. true≢false (sym (subst (λ q. same_rev q r ≡ true) (sym e) (same_itself r)) ∙ not_true (same_rev x.element.0 r) both.1);
      }
    where
      same_itself : (q : Rev) → same_rev q q ≡ true
      same_itself q = same_key_itself revs q

  no_sibling : list_any is_sibling (entries t) ≡ false → (d : Rev) → parent_of t d ≡ Some p → d ≡ r
  no_sibling fails d up = by_cases (same_rev d r)
      (λ s. same_key-equal revs d r s)
      (λ n.
      let k = known_of t d (knows_child t d p up) in
      let at : k.revision.parent ≡ Some p = sym (ap (option_and_then (λ (w : Revision). w.parent)) k.got) ∙ up in
      let passes = and_from (is_at k.revision.parent p) (not (same_rev d r)) ((is_at-equal k.revision.parent p).1 at) (ap not n) in
      absurd (true≢false (sym (any_passing is_sibling (entries t) (d, k.revision) ((Contains-entries revs t d k.revision).1 k.got) passes) ∙ fails)))

  pub child_cases : IsOneChild t p r ⊎ IsOnlyChild t p r
  child_cases = by_cases (list_any is_sibling (entries t)) (λ holds. inl (sibling_found holds)) (λ fails. inr (record { child = child; only = no_sibling fails }))

-- ---- where no top is too far, a stem keeps all

module _ (t : Tree) (f : IsForest t) (last : ℕ) (bound : (r : Rev) → knows t r ≡ true → r.generation ≤ last) (runs : RunMap) (h : AreRuns t runs) (limit : ℕ) where
  record HasNearLow (r : Rev) : Type 0 where
    low : ℕ
    is : IsLow t r low
    near : low < r.generation + limit

  module _ (none_due : (top : Rev) (run : Run) → get runs top ≡ Some run → run.low < top.generation + limit) where
    at_top : (r : Rev) → IsTop t r → HasNearLow r
    at_top r top = let x = h.all r top in record { low = x.0.low; is = low_run t f runs h last bound r x.0 x.1; near = none_due r x.0 x.1 }

    near_at : (fuel : ℕ) → ((p : Rev) → knows t p ≡ true → p.generation ≤ fuel → HasNearLow p) → (r : Rev) → knows t r ≡ true → r.generation ≤ suc fuel → (o : Option Rev) → parent_of t r ≡ o → HasNearLow r
    near_at fuel above r k le None up = at_top r (k, inl up)
    near_at fuel above r k le (Some p) up = ⊎_elim
        (λ one. at_top r (k, inr (p, one)))
        (λ only.
        let g = f.parents r p up in
        let x = above p g.0 (omega (arith, le, g.1)) in
        record { low = x.low; is = low_below t f p r x.low only x.is; near = omega (arith, x.near, g.1) })
        (child_cases t p r up)

    near_low : (fuel : ℕ) (r : Rev) → knows t r ≡ true → r.generation ≤ fuel → HasNearLow r
    near_low zero r k le = let some = f.generations r k in absurd (omega (arith, le, some))
    near_low (suc fuel) r k le = near_at fuel (near_low fuel) r k le (parent_of t r) refl

    all_near : (r : Rev) → knows t r ≡ true → IsNear limit t r
    all_near r k = let x = near_low r.generation r k (omega arith) in (x.is limit).1 x.near

    pub none_due_stem : stem limit t ≡ t
    none_due_stem = whole_restriction (IsNear limit t) t (stem limit t) ((stem-restriction limit t f (stem limit t)).0 refl) f (λ r. (all_near r, near_known limit t f r))

  pub due_far : (top : Rev) (run : Run) → get runs top ≡ Some run → top.generation + limit ≤ run.low → IsNear limit t top → ⊥
  due_far top run is due near = let lt = (low_run t f runs h last bound top run is limit).0 near in omega (arith, lt, due)

-- ---- a top that is too far goes, and a stem is the same

module _ (t : Tree) (f : IsForest t) (top : Rev) (limit : ℕ) (is_top : IsTop t top) (far : IsNear limit t top → ⊥) where
  abbrev pub without_top : Tree
  without_top = restrict (λ r. not (same_rev r top)) t

  abbrev pub Stays : Rev → Type 0
  Stays r = (knows t r ≡ true) × (same_rev r top ≡ false)

  pub without_top_restriction : IsRestriction Stays t without_top
  without_top_restriction = IsRestriction-restrict (λ r. not (same_rev r top)) t Stays f (λ r. (λ k. (k.1, not_true (same_rev r top) k.0), λ k. (ap not k.1, k.0)))

  other_child : (r : Rev) → parent_of t top ≡ Some r → (c : Rev) × (parent_of t c ≡ Some r) × Stays c
  other_child r up = ⊎_elim
      (λ none. absurd (none-some r (sym none ∙ up)))
      (λ o.
      let same : o.0 ≡ r = same_Some o.0 r (sym o.1.child ∙ up) in
      let sibling : parent_of t o.1.other ≡ Some r = o.1.sibling ∙ ap (λ q. Some q) same in
      (o.1.other, sibling, (knows_child t o.1.other r sibling, apart {O = revs} t top o.1.other o.1.apart)))
      is_top.1

  below : (r : Rev) → Stays r → has_child t r ≡ true → (c : Rev) × (parent_of t c ≡ Some r) × Stays c
  below r k has =
      let c = child_of t r has in
      by_cases (same_rev c.child top)
      (λ s. other_child r (ap (parent_of t) (sym (same_key-equal revs c.child top s)) ∙ c.parent))
      (λ n. (c.child, c.parent, (knows_child t c.child r c.parent, n)))

  pub IsForest-without_top : IsForest without_top
  IsForest-without_top = IsForest-restriction Stays t without_top without_top_restriction f (λ r k. k.0) below

  leaf_was : (r : Rev) → is_leaf without_top r ≡ true → is_leaf t r ≡ true
  leaf_was r leaf = ((IsLeafOf-restriction Stays t without_top without_top_restriction f (λ r k. k.0) below _).0 (record { leaf = leaf; flag = refl })).1.leaf

  leaf_stays : (r : Rev) → Stays r → is_leaf t r ≡ true → is_leaf without_top r ≡ true
  leaf_stays r k leaf = ((IsLeafOf-restriction Stays t without_top without_top_restriction f (λ r k. k.0) below _).1 (k, record { leaf = leaf; flag = refl })).leaf

  near_same : (n : ℕ) → n ≤ limit → (r : Rev) → Stays r → IsNear n without_top r ↔ IsNear n t r
  near_same zero le r k = (λ x. absurd (no_steps without_top r x), λ x. absurd (no_steps t r x))
  near_same (suc n) le r k = (
    λ x. (near_next t n r).1 (⊎_elim
        (λ leaf. inl (leaf_was r leaf))
        (λ d. let up = (without_top_restriction.parents d.0 r).0 d.1 in inr (d.0, up.0, (near_same n (omega arith) d.0 up.1).0 d.2))
        ((near_next without_top n r).0 x)),
    λ x. (near_next without_top n r).1 (⊎_elim
        (λ leaf. inl (leaf_stays r k leaf))
        (λ d. by_cases (same_rev d.0 top)
        (λ s. absurd (far (near_more t top n limit (omega arith) (subst (IsNear n t) (same_key-equal revs d.0 top s) d.2))))
        (λ fails.
        let stays : Stays d.0 = (knows_child t d.0 r d.1, fails) in
        inr (d.0, (without_top_restriction.parents d.0 r).1 (d.1, stays, k), (near_same n (omega arith) d.0 stays).1 d.2)))
        ((near_next t n r).0 x)),
  )

  stays_near : (r : Rev) → IsNear limit t r → Stays r
  stays_near r x = (near_known limit t f r x, by_cases (same_rev r top) (λ s. absurd (far (subst (IsNear limit t) (same_key-equal revs r top s) x))) (λ n. n))

  near_was : (r : Rev) → IsNear limit without_top r → IsNear limit t r
  near_was r x = (near_same limit (omega arith) r ((without_top_restriction.known r).0 (near_known limit without_top IsForest-without_top r x))).0 x

  near_stays : (r : Rev) → IsNear limit t r → IsNear limit without_top r
  near_stays r x = (near_same limit (omega arith) r (stays_near r x)).1 x

  stems : IsRestriction (IsNear limit without_top) without_top (stem limit without_top)
  stems = (stem-restriction limit without_top IsForest-without_top (stem limit without_top)).0 refl

  stems_whole : IsRestriction (IsNear limit t) t (stem limit without_top)
  stems_whole = record {
    known = λ r. (λ k. near_was r ((stems.known r).0 k), λ x. (stems.known r).1 (near_stays r x));
    parents = λ c p. (
      λ e. let a = (stems.parents c p).0 e in (((without_top_restriction.parents c p).0 a.0).0, near_was c a.1, near_was p a.2),
      λ a. (stems.parents c p).1 ((without_top_restriction.parents c p).1 (a.0, stays_near c a.1, stays_near p a.2), near_stays c a.1, near_stays p a.2),
    );
    bodies = λ r x. stems.bodies r (near_stays r x) ∙ without_top_restriction.bodies r (stays_near r x);
    flags = λ r x. stems.flags r (near_stays r x) ∙ without_top_restriction.flags r (stays_near r x);
  }

  pub stem_without_top : stem limit without_top ≡ stem limit t
  stem_without_top = sym ((stem-restriction limit t f (stem limit without_top)).1 stems_whole)
