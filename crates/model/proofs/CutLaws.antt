-- A cut keeps just what some leaf that isn't named descends from, and takes the named leaves away.
use Rattle.std.specs.Prelude.{◌≡◌, ◌↔◌, ◌⊎◌, ℕ, Bool, true, false, not, List, [], ◌∷◌, filter, Option, Some, None, Contains, refl}
use Rattle.std.specs.List.{list_any}
use Rattle.std.specs.declared.cmp.Ordering.TheVariants.{Less}
use Rattle.std.proofs.Common.{⊎_elim, inl, inr, sym, ap, subst, ◌∙◌, arith}
use Rattle.std.proofs.lemmas.Bool.{true≢false, not-true, not_from_false}
use Rattle.std.proofs.lemmas.Option.{none-some, same_Some}
use Rattle.std.proofs.lemmas.List.Kept.{AllPairs-filter}
use Rattle.model.specs.Revision.{Rev}
use Rattle.model.specs.Tree.{Tree, Leaf, IsForest, IsTree, IsInRange, IsLeafOf, knows, parent_of, has_child, is_deleted, is_leaf, among, leaves, leaf_cmp, path_of}
use Rattle.model.specs.TreeChange.{IsHeld, IsRestriction, held_by, cut}
use Rattle.model.proofs.ListLaws.{by_cases, passing_of, any_passing, Contains-head, Contains-filter}
use Rattle.model.proofs.TreeLaws.{leaf_known}
use Rattle.model.proofs.LeafLaws.{Contains-leaves, IsRising-leaves, only_leaves}
use Rattle.model.proofs.AncestorLaws.{slice_get-path_of, among-place}
use Rattle.model.proofs.ReachLaws.{IsReached, reached_itself, reached_above, reached_cases, reached_leaf, reached_below, reached_known, known_reached, some_leaf}
use Rattle.model.proofs.RestrictLaws.{IsRestriction-restrict, same_restriction, whole_restriction, IsLeafOf-restriction, IsForest-restriction, IsInRange-restriction}

module _ (named : List Rev) (t : Tree) where
  abbrev Stays : Rev → ℕ → Type 0
  Stays leaf steps = among named leaf ≡ false

  reached : (r : Rev) → IsHeld named t r → IsReached Stays t r
  reached r h = record { leaf = h.leaf; at_leaf = h.at_leaf; steps = h.steps; allowed = h.stays; leads = h.leads }

  held : (r : Rev) → IsReached Stays t r → IsHeld named t r
  held r h = record { leaf = h.leaf; at_leaf = h.at_leaf; steps = h.steps; stays = h.allowed; leads = h.leads }

  -- what is held is a leaf that isn't named, or a step above what is held
  pub held_cases : (r : Rev) → IsHeld named t r ↔ (((is_leaf t r ≡ true) × (among named r ≡ false)) ⊎ ((c : Rev) × (parent_of t c ≡ Some r) × IsHeld named t c))
  held_cases r = (
    λ h. ⊎_elim (λ e. inl (e.0, e.1)) (λ b. inr (b.child, b.parent, held b.child b.reached)) (reached_cases Stays t r (reached r h)),
    λ h. held r (⊎_elim (λ e. reached_itself Stays t r e.0 e.1) (λ b. reached_above Stays t r b.0 b.1 (reached b.0 b.2)) h),
  )

  pub held_known : IsForest t → (r : Rev) → IsHeld named t r → knows t r ≡ true
  held_known f r h = reached_known Stays t r f (reached r h)

  leaf_held : (r : Rev) → is_leaf t r ≡ true → among named r ≡ false → IsHeld named t r
  leaf_held r l stays = held r (reached_itself Stays t r l stays)

  held_below : (r : Rev) → IsHeld named t r → has_child t r ≡ true → (c : Rev) × (parent_of t c ≡ Some r) × IsHeld named t c
  held_below r h c = let b = reached_below Stays t r c (reached r h) in (b.child, b.parent, held b.child b.reached)

  abbrev left : List Leaf
  left = filter (λ l. not (among named l.rev)) (leaves t)

  -- the leaves that are left, each with its flag
  Contains-left : (l : Leaf) → Contains left l ↔ (IsLeafOf t l × (among named l.rev ≡ false))
  Contains-left l =
      let is = Contains-filter (λ l. not (among named l.rev)) (leaves t) l in
      (λ c. ((Contains-leaves t l).0 (is.0 c).0, not-true _ (is.0 c).1), λ h. is.1 ((Contains-leaves t l).1 h.0, not_from_false _ h.1))

  module _ (f : IsForest t) where
    IsRestriction-held_by : (ls : List Leaf) → ls ≡ left → (u : Tree) → held_by t ls ≡ Some u → IsRestriction (IsHeld named t) t u
    IsRestriction-held_by [] is u e = absurd (none-some u e)
    IsRestriction-held_by (k ∷ ks) is u e = subst (IsRestriction (IsHeld named t) t) (same_Some _ u e)
        (IsRestriction-restrict keep t (IsHeld named t) f (λ r. (λ k. held_of r k.0, λ h. (kept r h, held_known f r h))))
      where
        keep : Rev → Bool
        keep r = list_any (λ l. among (path_of t l.rev) r) (k ∷ ks)

        held_of : (r : Rev) → keep r ≡ true → IsHeld named t r
        held_of r h =
            let p = passing_of (λ l. among (path_of t l.rev) r) (k ∷ ks) h in
            let leaf = (Contains-left p.element).0 (subst (λ ls. Contains ls p.element) is p.listed) in
            let at = (among-place (path_of t p.element.rev) r).0 p.passes in
            let leads = sym (slice_get-path_of t f p.element.rev at.0 (leaf_known t p.element.rev leaf.0.leaf)) ∙ at.1 in
            record { leaf = p.element.rev; at_leaf = leaf.0.leaf; stays = leaf.1; steps = at.0; leads = leads }

        kept : (r : Rev) → IsHeld named t r → keep r ≡ true
        kept r h =
            let l : Leaf = record { deleted = is_deleted t h.leaf; rev = h.leaf } in
            let listed = subst (λ ls. Contains ls l) (sym is) ((Contains-left l).1 (record { leaf = h.at_leaf; flag = refl }, h.stays)) in
            any_passing (λ l. among (path_of t l.rev) r) (k ∷ ks) l listed
            ((among-place (path_of t h.leaf) r).1 (h.steps, slice_get-path_of t f h.leaf h.steps (leaf_known t h.leaf h.at_leaf) ∙ h.leads))

    module _ (u : Tree) (e : cut named t ≡ Some u) where
      pub IsRestriction-cut : IsRestriction (IsHeld named t) t u
      unfolding cut
      IsRestriction-cut = IsRestriction-held_by left refl u e

      pub IsForest-cut : IsForest u
      IsForest-cut = IsForest-restriction (IsHeld named t) t u IsRestriction-cut f (held_known f) held_below

      pub IsInRange-cut : IsInRange t → IsInRange u
      IsInRange-cut = IsInRange-restriction (IsHeld named t) t u IsRestriction-cut (held_known f)

      Contains-leaves_left : (l : Leaf) → Contains left l ↔ IsLeafOf u l
      Contains-leaves_left l =
          let is = IsLeafOf-restriction (IsHeld named t) t u IsRestriction-cut f (held_known f) held_below l in (
            λ c. let h = (Contains-left l).0 c in is.1 (leaf_held l.rev h.0.leaf h.1, h.0),
            λ g. let h = is.0 g in (Contains-left l).1 (h.1, reached_leaf Stays t l.rev h.1.leaf (reached l.rev h.0)),
          )

      pub leaves-cut : leaves u ≡ left
      leaves-cut =
          let rising = AllPairs-filter (λ a b. leaf_cmp a b ≡ Less) (λ l. not (among named l.rev)) (leaves t) (IsRising-leaves t) in
          sym (only_leaves u left rising Contains-leaves_left)

      pub IsTree-cut : IsTree u
      unfolding cut
      IsTree-cut = at left refl e
        where
          at : (ls : List Leaf) → ls ≡ left → held_by t ls ≡ Some u → IsTree u
          at [] is e = absurd (none-some u e)
          at (l ∷ ls) is e =
              let h = (Contains-left l).0 (subst (λ ks. Contains ks l) is (Contains-head l ls)) in
              record { forest = IsForest-cut; some_known = (l.rev, (IsRestriction-cut.known l.rev).1 (leaf_held l.rev h.0.leaf h.1)) }

  -- nothing is left exactly where each leaf is named
  pub cut-None : (cut named t ≡ None) ↔ ((r : Rev) → is_leaf t r ≡ true → among named r ≡ true)
  unfolding cut
  cut-None = (λ e. all_named left refl e, λ h. none left refl h)
    where
      all_named : (ls : List Leaf) → ls ≡ left → held_by t ls ≡ None → (r : Rev) → is_leaf t r ≡ true → among named r ≡ true
      all_named [] is e r l =
          let at : Leaf = record { deleted = is_deleted t r; rev = r } in
          by_cases (among named r) (λ n. n)
          (λ n. let c = subst (λ ks. Contains ks at) (sym is) ((Contains-left at).1 (record { leaf = l; flag = refl }, n)) in absurd (omega (arith, c.1)))
      all_named (k ∷ ks) is e r l = absurd (none-some _ (sym e))

      none : (ls : List Leaf) → ls ≡ left → ((r : Rev) → is_leaf t r ≡ true → among named r ≡ true) → held_by t ls ≡ None
      none [] is h = refl
      none (k ∷ ks) is h = let g = (Contains-left k).0 (subst (λ ls. Contains ls k) is (Contains-head k ks)) in absurd (true≢false (sym (h k.rev g.0.leaf) ∙ g.1))

  pub cut-restriction : IsForest t → (u : Tree) → (cut named t ≡ Some u) ↔ (IsRestriction (IsHeld named t) t u × ((r : Rev) × (knows u r ≡ true)))
  cut-restriction f u = (λ e. (IsRestriction-cut f u e, (IsTree-cut f u e).some_known), λ h. at (cut named t) refl h.0 h.1)
    where
      at : (o : Option Tree) → cut named t ≡ o → IsRestriction (IsHeld named t) t u → (r : Rev) × (knows u r ≡ true) → o ≡ Some u
      at None e h k = let g = (h.known k.0).0 k.1 in absurd (true≢false (sym (cut-None.0 e g.leaf g.at_leaf) ∙ g.stays))
      at (Some v) e h k = ap Some (same_restriction (IsHeld named t) t v (IsRestriction-cut f v e) u h)

  -- and the whole tree where none is
  pub cut_whole : IsTree t → ((r : Rev) → is_leaf t r ≡ true → among named r ≡ false) → cut named t ≡ Some t
  cut_whole h none = at (cut named t) refl
    where
      held_of : (r : Rev) → knows t r ≡ true → IsHeld named t r
      held_of r k = let b = known_reached t h.forest r k in record { leaf = b.leaf; at_leaf = b.at_leaf; stays = none b.leaf b.at_leaf; steps = b.steps; leads = b.leads }

      at : (o : Option Tree) → cut named t ≡ o → o ≡ Some t
      at None e = let l = some_leaf t h in let leaf = ((Contains-leaves t l.0).0 l.1).leaf in absurd (true≢false (sym (cut-None.0 e l.0.rev leaf) ∙ none l.0.rev leaf))
      at (Some u) e = ap Some (whole_restriction (IsHeld named t) t u (IsRestriction-cut h.forest u e) h.forest (λ r. (held_of r, held_known h.forest r)))
