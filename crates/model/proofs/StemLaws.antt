-- A stem keeps just what is fewer steps than its limit above some leaf.
use Rattle.std.specs.Prelude.{◌≡◌, ◌↔◌, ◌⊎◌, ℕ, ◌+◌, ◌<◌, ◌≤◌, Bool, true, Some, take, refl}
use Rattle.std.specs.List.{list_any}
use Rattle.std.proofs.Common.{⊎_elim, inl, inr, sym, subst, ◌∙◌, arith}
use Rattle.model.specs.Revision.{Rev}
use Rattle.model.specs.Tree.{Tree, IsForest, IsTree, IsInRange, IsNear, knows, parent_of, has_child, is_deleted, is_leaf, among, leaves, path_of}
use Rattle.model.specs.TreeChange.{IsRestriction, stem}
use Rattle.model.proofs.ListLaws.{passing_of, any_passing}
use Rattle.model.proofs.TreeLaws.{leaf_known}
use Rattle.model.proofs.LeafLaws.{Contains-leaves, same_leaves}
use Rattle.model.proofs.AncestorLaws.{slice_get-path_of, among-take}
use Rattle.model.proofs.ReachLaws.{IsReached, Stepped, reached_more, reached_itself, reached_above, reached_cases, reached_below, reached_known, known_reached, some_leaf}
use Rattle.model.proofs.RestrictLaws.{IsRestriction-restrict, same_restriction, whole_restriction, IsLeafOf-restriction, IsForest-restriction, IsInRange-restriction}

abbrev IsFew : ℕ → Rev → ℕ → Type 0
IsFew limit leaf steps = steps < limit

reached : (limit : ℕ) (t : Tree) (r : Rev) → IsNear limit t r → IsReached (IsFew limit) t r
reached limit t r h = record { leaf = h.leaf; at_leaf = h.at_leaf; steps = h.steps; allowed = h.few; leads = h.leads }

near : (limit : ℕ) (t : Tree) (r : Rev) → IsReached (IsFew limit) t r → IsNear limit t r
near limit t r h = record { leaf = h.leaf; at_leaf = h.at_leaf; steps = h.steps; few = h.allowed; leads = h.leads }

-- what is near is a leaf, or a step above what is nearer
pub near-suc : (limit : ℕ) (t : Tree) (r : Rev) → IsNear (limit + 1) t r ↔ ((is_leaf t r ≡ true) ⊎ ((c : Rev) × (parent_of t c ≡ Some r) × IsNear limit t c))
near-suc limit t r = (
  λ h. ⊎_elim (λ e. inl e.0) (λ b. inr (b.child, b.parent, near limit t b.child (fewer b.child b.reached))) (reached_cases (IsFew (limit + 1)) t r (reached (limit + 1) t r h)),
  λ h. near (limit + 1) t r (⊎_elim
      (λ l. reached_itself (IsFew (limit + 1)) t r l (omega arith))
      (λ b. reached_above (IsFew (limit + 1)) t r b.0 b.1 (more b.0 (reached limit t b.0 b.2))) h),
)
  where
    fewer : (c : Rev) → IsReached (Stepped (IsFew (limit + 1))) t c → IsReached (IsFew limit) t c
    fewer c = reached_more (Stepped (IsFew (limit + 1))) (IsFew limit) t c (λ leaf n few. omega (arith, few))

    more : (c : Rev) → IsReached (IsFew limit) t c → IsReached (Stepped (IsFew (limit + 1))) t c
    more c = reached_more (IsFew limit) (Stepped (IsFew (limit + 1))) t c (λ leaf n few. omega (arith, few))

module _ (limit : ℕ) (t : Tree) where
  pub near_known : IsForest t → (r : Rev) → IsNear limit t r → knows t r ≡ true
  near_known f r h = reached_known (IsFew limit) t r f (reached limit t r h)

  leaf_near : 0 < limit → (r : Rev) → is_leaf t r ≡ true → IsNear limit t r
  leaf_near p r l = near limit t r (reached_itself (IsFew limit) t r l p)

  near_below : (r : Rev) → IsNear limit t r → has_child t r ≡ true → (c : Rev) × (parent_of t c ≡ Some r) × IsNear limit t c
  near_below r h c =
      let b = reached_below (IsFew limit) t r c (reached limit t r h) in
      (b.child, b.parent, near limit t b.child (reached_more (Stepped (IsFew limit)) (IsFew limit) t b.child (λ leaf n few. omega (arith, few)) b.reached))

  module _ (f : IsForest t) where
    pub IsRestriction-stem : IsRestriction (IsNear limit t) t (stem limit t)
    unfolding stem
    IsRestriction-stem = IsRestriction-restrict keep t (IsNear limit t) f (λ r. (λ k. near_of r k.0, λ h. (kept r h, near_known f r h)))
      where
        keep : Rev → Bool
        keep r = list_any (λ l. among (take limit (path_of t l.rev)) r) (leaves t)

        near_of : (r : Rev) → keep r ≡ true → IsNear limit t r
        near_of r k =
            let p = passing_of (λ l. among (take limit (path_of t l.rev)) r) (leaves t) k in
            let leaf = ((Contains-leaves t p.element).0 p.listed).leaf in
            let at = (among-take limit (path_of t p.element.rev) r).0 p.passes in
            let leads = sym (slice_get-path_of t f p.element.rev at.0 (leaf_known t p.element.rev leaf)) ∙ at.2 in
            record { leaf = p.element.rev; at_leaf = leaf; steps = at.0; few = at.1; leads = leads }

        kept : (r : Rev) → IsNear limit t r → keep r ≡ true
        kept r h = any_passing (λ l. among (take limit (path_of t l.rev)) r) (leaves t) (record { deleted = is_deleted t h.leaf; rev = h.leaf })
            ((Contains-leaves t _).1 (record { leaf = h.at_leaf; flag = refl }))
            ((among-take limit (path_of t h.leaf) r).1 (h.steps, h.few, slice_get-path_of t f h.leaf h.steps (leaf_known t h.leaf h.at_leaf) ∙ h.leads))

    pub stem-restriction : (u : Tree) → (stem limit t ≡ u) ↔ IsRestriction (IsNear limit t) t u
    stem-restriction u = (λ e. subst (IsRestriction (IsNear limit t) t) e IsRestriction-stem, λ h. same_restriction (IsNear limit t) t (stem limit t) IsRestriction-stem u h)

    pub IsForest-stem : IsForest (stem limit t)
    IsForest-stem = IsForest-restriction (IsNear limit t) t (stem limit t) IsRestriction-stem f (near_known f) near_below

    pub IsInRange-stem : IsInRange t → IsInRange (stem limit t)
    IsInRange-stem = IsInRange-restriction (IsNear limit t) t (stem limit t) IsRestriction-stem (near_known f)

    pub leaves-stem : 0 < limit → leaves (stem limit t) ≡ leaves t
    leaves-stem p = same_leaves (stem limit t) t (λ l.
        let is = IsLeafOf-restriction (IsNear limit t) t (stem limit t) IsRestriction-stem f (near_known f) near_below l in
        (λ g. (is.0 g).1, λ g. is.1 (leaf_near p l.rev g.leaf, g)))

    -- a stem that is longer than any path changes nothing
    pub stem_whole : ((r : Rev) → knows t r ≡ true → r.generation ≤ limit) → stem limit t ≡ t
    stem_whole short = whole_restriction (IsNear limit t) t (stem limit t) IsRestriction-stem f (λ r. (near_of r, near_known f r))
      where
        near_of : (r : Rev) → knows t r ≡ true → IsNear limit t r
        near_of r k =
            let h = known_reached t f r k in
            let few : h.steps < limit = omega (arith, h.allowed, f.generations r k, short h.leaf (leaf_known t h.leaf h.at_leaf)) in
            record { leaf = h.leaf; at_leaf = h.at_leaf; steps = h.steps; few = few; leads = h.leads }

  pub IsTree-stem : 0 < limit → IsTree t → IsTree (stem limit t)
  IsTree-stem p h =
      let l = some_leaf t h in
      record {
        forest = IsForest-stem h.forest;
        some_known = (l.0.rev, ((IsRestriction-stem h.forest).known l.0.rev).1 (leaf_near p l.0.rev ((Contains-leaves t l.0).0 l.1).leaf));
      }
