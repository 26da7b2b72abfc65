-- The least generation of a leaf at or below a revision, from the runs of a tree.
use Rattle.std.specs.Prelude.{◌≡◌, ◌↔◌, ◌⊎◌, ℕ, zero, suc, ◌+◌, ◌<◌, ◌≤◌, Bool, true, false, Option, Some, None, nat_lt, refl}
use Rattle.std.proofs.Common.{sym, ap, subst, ◌∙◌, ⊎_elim, inl, inr, arith}
use Rattle.std.proofs.lemmas.Bool.{true≢false}
use Rattle.std.proofs.lemmas.Option.{none-some, same_Some}
use borrow.Author.Tests.{ltb-true, ltb-false}
use Rattle.model.specs.Map.{get, same_key-equal}
use Rattle.model.specs.Revision.{Rev, revs, same_rev, same_rev-equal}
use Rattle.model.specs.Tree.{Tree, IsForest, IsNear, is_leaf, knows, parent_of}
use Rattle.model.proofs.ListLaws.{by_cases}
use Rattle.model.proofs.StemLaws.{near-suc}
use Rattle.model.proofs.TreeLaws.{knows_child, leaf_known, no_parent_of_leaf}
use Rattle.revision_runs.specs.declared.run.Run.{Run}
use Rattle.revision_runs.specs.Runs.{RunMap}
use Rattle.revision_runs.specs.TreeRuns.{IsLow, IsOnlyChild, IsOneChild, IsWay, IsTop, IsLeastUnder, IsBottom, IsRunOf, AreRuns}

-- ---- one step

pub no_steps : (t : Tree) (r : Rev) → IsNear 0 t r → ⊥
no_steps t r h = omega (arith, h.few)

pub near_more : (t : Tree) (r : Rev) (m n : ℕ) → m ≤ n → IsNear m t r → IsNear n t r
near_more t r m n le h = record { leaf = h.leaf; at_leaf = h.at_leaf; steps = h.steps; few = omega (arith, h.few, le); leads = h.leads }

abbrev pub IsNearBelow : ℕ → Tree → Rev → Type 0
IsNearBelow k t r = (is_leaf t r ≡ true) ⊎ ((c : Rev) × (parent_of t c ≡ Some r) × IsNear k t c)

pub near_next : (t : Tree) (k : ℕ) (r : Rev) → IsNear (suc k) t r ↔ IsNearBelow k t r
near_next t k r = let one : k + 1 ≡ suc k = omega arith in subst (λ m. IsNear m t r ↔ IsNearBelow k t r) one (near-suc k t r)

module _ (t : Tree) (f : IsForest t) where
  pub low_leaf : (r : Rev) → is_leaf t r ≡ true → IsLow t r r.generation
  low_leaf r leaf zero = (λ h. absurd (no_steps t r h), λ lt. absurd (omega (arith, lt)))
  low_leaf r leaf (suc k) = (λ h. omega arith, λ lt. (near_next t k r).1 (inl leaf))

  pub low_least : (r : Rev) (n : ℕ) → IsLow t r n → r.generation ≤ n
  low_least r n h = by_cases (nat_lt n r.generation)
      (λ holds. let lt = ltb-true n r.generation holds in absurd (no_steps t r ((h 0).1 (omega (arith, lt)))))
      (λ fails. ltb-false n r.generation fails)

  younger : (c p : Rev) → parent_of t c ≡ Some p → c.generation ≡ p.generation + 1
  younger c p e = (f.parents c p e).1

  pub low_above : (p c : Rev) (n : ℕ) → IsOnlyChild t p c → IsLow t c n → IsLow t p n
  low_above p c n o h zero = (
    λ x. absurd (no_steps t p x),
    λ lt. let le = low_least c n h in let g = younger c p o.child in absurd (omega (arith, lt, le, g)),
  )
  low_above p c n o h (suc k) =
      let g = younger c p o.child in (
        λ x. ⊎_elim
            (λ leaf. absurd (no_parent_of_leaf t p c leaf o.child))
            (λ d. let lt = (h k).0 (subst (IsNear k t) (o.only d.0 d.1) d.2) in omega (arith, lt, g))
            ((near_next t k p).0 x),
        λ lt. (near_next t k p).1 (inr (c, o.child, (h k).1 (omega (arith, lt, g)))),
      )

  pub low_below : (p c : Rev) (n : ℕ) → IsOnlyChild t p c → IsLow t p n → IsLow t c n
  low_below p c n o h k =
      let g = younger c p o.child in (
        λ x. let lt = (h (suc k)).0 ((near_next t k p).1 (inr (c, o.child, x))) in omega (arith, lt, g),
        λ lt. ⊎_elim
            (λ leaf. absurd (no_parent_of_leaf t p c leaf o.child))
            (λ d. subst (IsNear k t) (o.only d.0 d.1) d.2)
            ((near_next t k p).0 ((h (suc k)).1 (omega (arith, lt, g)))),
      )

  pub low_way : (steps : ℕ) (b r : Rev) (n : ℕ) → IsWay t steps b r → IsLow t b n → IsLow t r n
  low_way zero b r n way h = subst (λ q. IsLow t q n) way h
  low_way (suc steps) b r n way h = low_way steps way.0 r n way.2 (low_above way.0 b n way.1 h)

  pub way_older : (steps : ℕ) (b r : Rev) → IsWay t steps b r → r.generation ≤ b.generation
  way_older zero b r way = let same = ap (λ (q : Rev). q.generation) way in omega (arith, same)
  way_older (suc steps) b r way = let le = way_older steps way.0 r way.2 in let g = younger b way.0 way.1.child in omega (arith, le, g)

  -- ---- the runs of a tree

  module _ (runs : RunMap) (h : AreRuns t runs) where
    hanging : (b top : Rev) (run : Run) → get runs top ≡ Some run → run.fork ≡ Some b → parent_of t top ≡ Some b
    hanging b top run is fork = sym ((h.each top run is).fork) ∙ fork

    -- each child of a revision under which a run hangs is a top
    pub sibling_top : (b top : Rev) (run : Run) → get runs top ≡ Some run → run.fork ≡ Some b → (d : Rev) → parent_of t d ≡ Some b → IsTop t d
    sibling_top b top run is fork d child = (knows_child t d b child, inr (b, one))
      where
        up : parent_of t top ≡ Some b
        up = hanging b top run is fork

        of_one : (p : Rev) → IsOneChild t p top → IsOneChild t b d
        of_one p o = by_cases (same_rev d top)
            (λ same. let is : d ≡ top = same_key-equal revs d top same in
            let parent : p ≡ b = same_Some p b (sym o.child ∙ up) in
            record { child = child; other = o.other; sibling = o.sibling ∙ ap (λ q. Some q) parent; apart = λ e. o.apart (e ∙ is) })
            (λ other. record { child = child; other = top; sibling = up; apart = λ e. ne d top other (sym e) })
          where
            ne : (a b : Rev) → same_rev a b ≡ false → a ≡ b → ⊥
            ne a b fails e = true≢false (sym ((same_rev-equal a b).1 e) ∙ fails)

        one : IsOneChild t b d
        one = ⊎_elim (λ none. absurd (none-some b (sym none ∙ up))) (λ o. of_one o.0 o.1) ((h.each top run is).at_top.1)

    low_fork : (b : Rev) (n : ℕ) → IsLeastUnder runs b n → ((d : Rev) (r : Run) → parent_of t d ≡ Some b → get runs d ≡ Some r → IsLow t d r.low) → IsLow t b n
    low_fork b n l each zero = (
      λ x. absurd (no_steps t b x),
      λ lt.
          let up = hanging b l.top l.run l.is l.fork in
          let le = low_least l.top l.run.low (each l.top l.run up l.is) in
          let g = younger l.top b up in
          absurd (omega (arith, lt, le, g, l.low)),
    )
    low_fork b n l each (suc k) =
        let up = hanging b l.top l.run l.is l.fork in (
          λ x. ⊎_elim
              (λ leaf. absurd (no_parent_of_leaf t b l.top leaf up))
              (λ d.
              let r = h.all d.0 (sibling_top b l.top l.run l.is l.fork d.0 d.1) in
              let lt = (each d.0 r.0 d.1 r.1 k).0 d.2 in
              let le = l.least d.0 r.0 r.1 ((h.each d.0 r.0 r.1).fork ∙ d.1) in
              let g = younger d.0 b d.1 in
              omega (arith, lt, le, g))
              ((near_next t k b).0 x),
          λ lt.
              let g = younger l.top b up in
              (near_next t k b).1 (inr (l.top, up, (each l.top l.run up l.is k).1 (omega (arith, lt, g, l.low)))),
        )

    module _ (last : ℕ) (bound : (r : Rev) → knows t r ≡ true → r.generation ≤ last) where
      low_within : (fuel : ℕ) (top : Rev) (run : Run) → get runs top ≡ Some run → last < top.generation + fuel → IsLow t top run.low
      low_within zero top run is lt = let le = bound top (h.each top run is).at_top.0 in absurd (omega (arith, lt, le))
      low_within (suc fuel) top run is lt =
          let r = h.each top run is in
          let older = way_older r.steps run.bottom top r.way in
          low_way r.steps run.bottom top run.low r.way (⊎_elim
          (λ leaf. subst (IsLow t run.bottom) (sym leaf.1) (low_leaf run.bottom leaf.0))
          (λ l. low_fork run.bottom run.low l (λ d s up at. let g = younger d run.bottom up in low_within fuel d s at (omega (arith, lt, older, g))))
          r.low)

      pub low_run : (top : Rev) (run : Run) → get runs top ≡ Some run → IsLow t top run.low
      low_run top run is = low_within (suc last) top run is (omega arith)
