-- The marks say which revisions lie so few steps above some leaf that isn't named.
use Rattle.std.specs.Prelude.{◌≡◌, ◌↔◌, ◌⊎◌, ℕ, ◌+◌, ◌-◌, ◌<◌, ◌≤◌, max, Bool, true, false, not, ◌&&◌, cond, List, [], ◌∷◌, All, AllPairs, Contains, Option, Some, refl}
use Rattle.std.proofs.Common.{sym, ap, subst, ◌∙◌, ⊎_elim, inl, inr, arith, lt-ltb, ltb-true}
use Rattle.std.specs.declared.cmp.Ordering.TheVariants.{Less}
use Rattle.std.specs.Cmp.{tied_itself}
use Rattle.std.proofs.lemmas.Bool.{cases_lt, and_parts, and_from, not-true, not_from_false, cond-true}
use Rattle.std.proofs.lemmas.List.Elements.{All-head, All-tail, All-weaker, All-contains_itself}
use Rattle.model.specs.Map.{entries, get}
use Rattle.model.specs.Revision.{Rev, rev_cmp, rev_total, revs}
use Rattle.model.specs.Tree.{Tree, Revision, IsForest, is_at, among, is_leaf, parent_of}
use Rattle.model.proofs.ListLaws.{by_cases, AllPairs-head, AllPairs-tail, Contains-cons_cases}
use Rattle.model.proofs.MapLaws.{Contains-entries, IsRising-keys}
use Rattle.model.proofs.RisingLaws.{AllPairs-map}
use Rattle.model.proofs.TreeLaws.{is_at-equal, parent_in, known_of, knows_child}
use Rattle.model.proofs.ReachLaws.{IsReached, Stepped, reached_more, reached_itself, reached_above, reached_cases}
use Rattle.tree_merge.specs.Reach.{first_mark, raised, reach, is_reached}
use Rattle.revision_tree.proofs.Ends.{younger}

-- the leaf isn't named, and k more steps are allowed
abbrev pub Within : ℕ → List Rev → ℕ → Rev → ℕ → Type 0
Within limit named k leaf n = (among named leaf ≡ false) × (n + k < limit)

abbrev Entry : Type 0
Entry = Rev × Revision

abbrev Above : Entry → Entry → Type 0
Above a b = rev_cmp a.0 b.0 ≡ Less

pub rising_entries : (t : Tree) → AllPairs Above (entries t)
rising_entries t = AllPairs-map (λ (a b : Rev). rev_cmp a b ≡ Less) (λ (e : Entry). e.0) (entries t) (IsRising-keys revs t)

raised_at : (parent : Option Rev) (mark : ℕ) (g : Rev → ℕ) (r : Rev) → parent ≡ Some r → raised parent mark g r ≡ max (g r) mark
raised_at parent mark g r e = cond-true (is_at parent r) (max (g r) mark) (g r) ((is_at-equal parent r).1 e)

raised_most : (parent : Option Rev) (mark : ℕ) (g : Rev → ℕ) (r : Rev) → g r ≤ raised parent mark g r
raised_most parent mark g r = at (is_at parent r)
  where
    at : (b : Bool) → g r ≤ cond b (max (g r) mark) (g r)
    at true = omega arith
    at false = omega arith

module _ (limit : ℕ) (named : List Rev) (t : Tree) where
  abbrev base : Rev → ℕ
  base = first_mark limit named t

  Allows : ℕ → Rev → ℕ → Type 0
  Allows k = Within limit named k

  base_least : (es : List Entry) (r : Rev) → base r ≤ reach base es r
  base_least [] r = omega arith
  base_least (e ∷ es) r = omega (arith, base_least es r, raised_most e.1.parent (reach base es e.0 - 1) (reach base es) r)

  -- a mark of a leaf that isn't named
  base_leaf : (k : ℕ) (r : Rev) → k < base r → IsReached (Within limit named k) t r
  base_leaf k r lt = at (is_leaf t r && not (among named r)) refl lt
    where
      at : (b : Bool) → (is_leaf t r && not (among named r)) ≡ b → k < cond b limit 0 → IsReached (Within limit named k) t r
      at true e lt = let h = and_parts (is_leaf t r) (not (among named r)) e in reached_itself (Within limit named k) t r h.0 (not-true (among named r) h.1, omega arith)
      at false e lt = absurd (omega arith)

  leaf_base : (k : ℕ) (r : Rev) → is_leaf t r ≡ true → Within limit named k r 0 → k < base r
  leaf_base k r l a = subst (λ b. k < cond b limit 0) (sym (and_from (is_leaf t r) (not (among named r)) l (not_from_false (among named r) a.0))) (omega (arith, a.1))

  -- ---- what is marked is reached

  stepped : (k : ℕ) (c : Rev) → IsReached (Within limit named (k + 1)) t c → IsReached (Stepped (Within limit named k)) t c
  stepped k c = reached_more (Within limit named (k + 1)) (Stepped (Within limit named k)) t c (λ leaf n a. (a.0, omega (arith, a.1)))

  unstepped : (k : ℕ) (c : Rev) → IsReached (Stepped (Within limit named k)) t c → IsReached (Within limit named (k + 1)) t c
  unstepped k c = reached_more (Stepped (Within limit named k)) (Within limit named (k + 1)) t c (λ leaf n a. (a.0, omega (arith, a.1)))

  marked_reached : (es : List Entry) → All (λ e. get t e.0 ≡ Some e.1) es → (k : ℕ) (r : Rev) → k < reach base es r → IsReached (Within limit named k) t r
  marked_reached [] h k r lt = base_leaf k r lt
  marked_reached (e ∷ es) h k r lt = by_cases (is_at e.1.parent r) (λ at. here at (marked_reached es rest)) (λ off. marked_reached es rest k r (subst (λ b. k < cond b (max (reach base es r) (reach base es e.0 - 1)) (reach base es r)) off lt))
    where
      rest : All (λ e. get t e.0 ≡ Some e.1) es
      rest = All-tail (λ e. get t e.0 ≡ Some e.1) e es h

      here : is_at e.1.parent r ≡ true → ((k : ℕ) (r : Rev) → k < reach base es r → IsReached (Within limit named k) t r) → IsReached (Within limit named k) t r
      here at fewer =
          let most : k < max (reach base es r) (reach base es e.0 - 1) = subst (λ b. k < cond b (max (reach base es r) (reach base es e.0 - 1)) (reach base es r)) at lt in
          let parent : parent_of t e.0 ≡ Some r = ap parent_in (All-head (λ e. get t e.0 ≡ Some e.1) e es h) ∙ (is_at-equal e.1.parent r).0 at in
          ⊎_elim (fewer k r) (λ one. reached_above (Within limit named k) t r e.0 parent (stepped k e.0 (fewer (k + 1) e.0 one))) (either most)
        where
          either : k < max (reach base es r) (reach base es e.0 - 1) → (k < reach base es r) ⊎ (k + 1 < reach base es e.0)
          either m = ⊎_elim inl (λ le. inr (omega (arith, le, m))) (cases_lt k (reach base es r))

  -- ---- what is reached is marked

  -- an entry is among these, or comes before all of them
  abbrev Split : List Entry → Type 0
  Split es = (d : Entry) → Contains (entries t) d → Contains es d ⊎ All (Above d) es

  module _ (f : IsForest t) where
    child_marked : (es : List Entry) → AllPairs Above es → Split es → (c : Entry) → Contains es c → (k : ℕ) (r : Rev) → c.1.parent ≡ Some r → get t c.0 ≡ Some c.1 → IsReached (Within limit named (k + 1)) t c.0 → k < reach base es r
    child_marked [] rise split c listed k r parent got h = absurd (omega (arith, listed.1))
    child_marked (e ∷ es) rise split c listed k r parent got h = ⊎_elim
        (λ same. here (child_marked es tail rest) same)
        (λ later. omega (arith, child_marked es tail rest c later k r parent got h, raised_most e.1.parent (reach base es e.0 - 1) (reach base es) r))
        (Contains-cons_cases e es c listed)
      where
        tail : AllPairs Above es
        tail = AllPairs-tail Above e es rise

        twice : (a b : Rev) → rev_cmp a b ≡ Less → rev_cmp b a ≡ Less → ⊥
        twice a b p q = let same = sym (rev_total.trans a b a p q) ∙ tied_itself rev_total a in cc

        after : (d : Entry) → Contains (entries t) d → Above e d → Contains es d
        after d listed less = ⊎_elim
            (λ in_all. ⊎_elim (λ (same : e ≡ d). absurd (twice e.0 d.0 less (subst (λ x. rev_cmp x.0 e.0 ≡ Less) same (subst (λ x. rev_cmp e.0 x.0 ≡ Less) (sym same) less)))) (λ c. c) (Contains-cons_cases e es d in_all))
            (λ before. absurd (twice e.0 d.0 less (All-head (Above d) e es before)))
            (split d listed)

        rest : Split es
        rest d listed = ⊎_elim
            (λ in_all. ⊎_elim (λ (same : e ≡ d). inr (subst (λ x. All (Above x) es) same (AllPairs-head Above e es rise))) inl (Contains-cons_cases e es d in_all))
            (λ before. inr (All-tail (Above d) e es before))
            (split d listed)

        -- its own mark, from a leaf or from a child above
        own : ((d : Entry) → Contains es d → (j : ℕ) (r : Rev) → d.1.parent ≡ Some r → get t d.0 ≡ Some d.1 → IsReached (Within limit named (j + 1)) t d.0 → j < reach base es r)
            → (j : ℕ) → IsReached (Within limit named j) t e.0 → j < reach base es e.0
        own fewer j g = ⊎_elim
            (λ leaf. omega (arith, leaf_base j e.0 leaf.0 leaf.1, base_least es e.0))
            (λ d.
            let v = known_of t d.child (knows_child t d.child e.0 d.parent) in
            let x : Entry = (d.child, v.revision) in
            let up : Above e x = younger e.0 d.child (omega (arith, (f.parents d.child e.0 d.parent).1)) in
            fewer x (after x ((Contains-entries revs t d.child v.revision).1 v.got) up) j e.0 (ap parent_in (sym v.got) ∙ d.parent) v.got (unstepped j d.child d.reached))
            (reached_cases (Within limit named j) t e.0 g)

        here : ((d : Entry) → Contains es d → (j : ℕ) (r : Rev) → d.1.parent ≡ Some r → get t d.0 ≡ Some d.1 → IsReached (Within limit named (j + 1)) t d.0 → j < reach base es r)
            → e ≡ c → k < raised e.1.parent (reach base es e.0 - 1) (reach base es) r
        here fewer same =
            let parent_here : e.1.parent ≡ Some r = ap (λ (x : Entry). x.1.parent) same ∙ parent in
            let mark = own fewer (k + 1) (subst (λ (x : Entry). IsReached (Within limit named (k + 1)) t x.0) (sym same) h) in
            subst (λ m. k < m) (sym (raised_at e.1.parent (reach base es e.0 - 1) (reach base es) r parent_here)) (omega (arith, mark))

    pub reached_marked : (k : ℕ) (r : Rev) → IsReached (Within limit named k) t r → k < reach base (entries t) r
    reached_marked k r h = ⊎_elim
        (λ leaf. omega (arith, leaf_base k r leaf.0 leaf.1, base_least (entries t) r))
        (λ d.
        let v = known_of t d.child (knows_child t d.child r d.parent) in
        child_marked (entries t) (rising_entries t) (λ x c. inl c) (d.child, v.revision) ((Contains-entries revs t d.child v.revision).1 v.got) k r (ap parent_in (sym v.got) ∙ d.parent) v.got (unstepped k d.child d.reached))
        (reached_cases (Within limit named k) t r h)

  pub all_got : All (λ e. get t e.0 ≡ Some e.1) (entries t)
  all_got = All-weaker (Contains (entries t)) (λ e. get t e.0 ≡ Some e.1) (λ e c. (Contains-entries revs t e.0 e.1).0 c) (entries t) (All-contains_itself (entries t))

  pub is_reached-reached : IsForest t → (r : Rev) → (is_reached limit named t r ≡ true) ↔ IsReached (Within limit named 0) t r
  is_reached-reached f r = (
    λ e. marked_reached (entries t) all_got 0 r (ltb-true 0 (reach base (entries t) r) e),
    λ h. lt-ltb 0 (reach base (entries t) r) (reached_marked f 0 r h),
  )
