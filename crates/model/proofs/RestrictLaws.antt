-- A tree with just some revisions of another: a test of revisions makes one, there is no second, and its leaves are leaves
-- where each kept revision that has children has a kept one.
use Rattle.std.specs.Prelude.{◌≡◌, ◌↔◌, Bool, true, false, cond, ◌&&◌, Option, Some, None, is_some, option_map, option_and_then, if◌then◌else◌, refl}
use Rattle.std.specs.Cmp.{both_ways}
use Rattle.std.proofs.Common.{sym, ap, subst, ◌∙◌}
use Rattle.std.proofs.lemmas.Bool.{and_parts, and_from, cond-true}
use Rattle.std.proofs.lemmas.Option.{none-some, cond_some}
use Rattle.model.specs.Map.{get, get-refine}
use Rattle.model.specs.Revision.{Rev}
use Rattle.model.specs.Tree.{Revision, Tree, Leaf, IsForest, IsInRange, IsLeafOf, knows, parent_of, body_of, is_deleted, has_child, is_leaf}
use Rattle.model.specs.TreeChange.{IsRestriction, restrict}
use Rattle.model.proofs.ListLaws.{by_cases, same_option}
use Rattle.model.proofs.TreeLaws.{parent_in, body_in, flag_in, kept_by, knows_child, Child, child_of, leaf_known, unknown_body, unknown_flag, knows_bodied, childless_leaf, no_parent_of_leaf, same_trees}

-- ---- the restriction to what passes a test

module _ (keep : Rev → Bool) (t : Tree) where
  abbrev kept_parent : Option Rev → Option Rev
  kept_parent o = option_and_then (λ p. if keep p then Some p else None) o

  abbrev shortened : Revision → Revision
  shortened v = record v { parent = kept_parent v.parent }

  pub get-restrict : (r : Rev) → get (restrict keep t) r ≡ cond (keep r) (option_map shortened (get t r)) None
  unfolding restrict
  get-restrict r = get-refine (λ q v. if keep q then Some (shortened v) else None) t r ∙ same (keep r) (get t r)
    where
      same : (b : Bool) (o : Option Revision) → option_and_then (λ v. cond b (Some (shortened v)) None) o ≡ cond b (option_map shortened o) None
      same true None = refl
      same true (Some v) = refl
      same false None = refl
      same false (Some v) = refl

  knows-restrict : (r : Rev) → knows (restrict keep t) r ≡ (keep r && knows t r)
  knows-restrict r = ap is_some (get-restrict r) ∙ same (keep r) (get t r)
    where
      same : (b : Bool) (o : Option Revision) → is_some (cond b (option_map shortened o) None) ≡ (b && is_some o)
      same true None = refl
      same true (Some v) = refl
      same false o = refl

  parent_of-restrict : (r : Rev) → parent_of (restrict keep t) r ≡ cond (keep r) (kept_parent (parent_of t r)) None
  parent_of-restrict r = ap parent_in (get-restrict r) ∙ same (keep r) (get t r)
    where
      same : (b : Bool) (o : Option Revision) → parent_in (cond b (option_map shortened o) None) ≡ cond b (kept_parent (parent_in o)) None
      same true None = refl
      same true (Some v) = refl
      same false o = refl

  body_of-restrict : (r : Rev) → keep r ≡ true → body_of (restrict keep t) r ≡ body_of t r
  body_of-restrict r k = ap body_in (get-restrict r ∙ cond-true _ _ None k) ∙ kept_by body_in shortened (λ v. refl) (get t r)

  is_deleted-restrict : (r : Rev) → keep r ≡ true → is_deleted (restrict keep t) r ≡ is_deleted t r
  is_deleted-restrict r k = ap flag_in (get-restrict r ∙ cond-true _ _ None k) ∙ kept_by flag_in shortened (λ v. refl) (get t r)

  kept_parents : (c p : Rev) → parent_of (restrict keep t) c ≡ Some p → (parent_of t c ≡ Some p) × (keep c ≡ true) × (keep p ≡ true)
  kept_parents c p e = of_child (keep c) refl (sym (parent_of-restrict c) ∙ e)
    where
      of_parent : (o : Option Rev) → kept_parent o ≡ Some p → (o ≡ Some p) × (keep p ≡ true)
      of_parent None e = absurd (none-some p e)
      of_parent (Some q) e = let h = cond_some (keep q) q p e in (ap Some h.1, subst (λ a. keep a ≡ true) h.1 h.0)

      of_child : (b : Bool) → keep c ≡ b → cond b (kept_parent (parent_of t c)) None ≡ Some p → (parent_of t c ≡ Some p) × (keep c ≡ true) × (keep p ≡ true)
      of_child true k e = let h = of_parent (parent_of t c) e in (h.0, k, h.1)
      of_child false k e = absurd (none-some p e)

  parent_kept : (c p : Rev) → parent_of t c ≡ Some p → keep c ≡ true → keep p ≡ true → parent_of (restrict keep t) c ≡ Some p
  parent_kept c p e kc kp = parent_of-restrict c ∙ (λ i. cond (kc i) (kept_parent (e i)) None) ∙ cond-true _ (Some p) None kp

  pub IsRestriction-restrict : (Keeps : Rev → Type 0) → IsForest t → ((r : Rev) → (keep r ≡ true) × (knows t r ≡ true) ↔ Keeps r) → IsRestriction Keeps t (restrict keep t)
  IsRestriction-restrict Keeps f is = record {
    known = λ r. (
      λ k. let h = and_parts _ _ (sym (knows-restrict r) ∙ k) in (is r).0 (h.0, h.1),
      λ k. let h = (is r).1 k in knows-restrict r ∙ and_from _ _ h.0 h.1,
    );
    parents = λ c p. (
      λ e. let h = kept_parents c p e in (h.0, (is c).0 (h.1, knows_child t c p h.0), (is p).0 (h.2, (f.parents c p h.0).0)),
      λ h. parent_kept c p h.0 ((is c).1 h.1).0 ((is p).1 h.2).0,
    );
    bodies = λ r k. body_of-restrict r ((is r).1 k).0;
    flags = λ r k. is_deleted-restrict r ((is r).1 k).0;
  }

-- ---- what a restriction has

module _ (Keeps : Rev → Type 0) (t u : Tree) (h : IsRestriction Keeps t u) where
  -- there is one restriction
  pub same_restriction : (v : Tree) → IsRestriction Keeps t v → u ≡ v
  same_restriction v g = same_trees u v known parents bodies flags
    where
      known : (r : Rev) → knows u r ≡ knows v r
      known r = both_ways _ _ (λ k. (g.known r).1 ((h.known r).0 k)) (λ k. (h.known r).1 ((g.known r).0 k))

      parents : (r : Rev) → parent_of u r ≡ parent_of v r
      parents r = same_option _ _ (λ p. (λ e. (g.parents r p).1 ((h.parents r p).0 e), λ e. (h.parents r p).1 ((g.parents r p).0 e)))

      bodies : (r : Rev) → body_of u r ≡ body_of v r
      bodies r = by_cases (knows u r)
          (λ k. let kept = (h.known r).0 k in h.bodies r kept ∙ sym (g.bodies r kept))
          (λ k. unknown_body u r k ∙ sym (unknown_body v r (sym (known r) ∙ k)))

      flags : (r : Rev) → is_deleted u r ≡ is_deleted v r
      flags r = by_cases (knows u r)
          (λ k. let kept = (h.known r).0 k in h.flags r kept ∙ sym (g.flags r kept))
          (λ k. unknown_flag u r k ∙ sym (unknown_flag v r (sym (known r) ∙ k)))

  -- and where all is kept it is the tree
  pub whole_restriction : IsForest t → ((r : Rev) → knows t r ≡ true ↔ Keeps r) → u ≡ t
  whole_restriction f all = same_restriction t (record {
    known = all;
    parents = λ c p. (λ e. (e, (all c).0 (knows_child t c p e), (all p).0 (f.parents c p e).0), λ g. g.0);
    bodies = λ r k. refl;
    flags = λ r k. refl;
  })

  -- ---- where each kept revision that has children has a kept one

  module _ (f : IsForest t) (known : (r : Rev) → Keeps r → knows t r ≡ true)
      (below : (r : Rev) → Keeps r → has_child t r ≡ true → (c : Rev) × (parent_of t c ≡ Some r) × Keeps c) where
    kept_leaf : (r : Rev) → is_leaf u r ≡ true → is_leaf t r ≡ true
    kept_leaf r l = childless_leaf t r (known r kept) (by_cases (has_child t r) (λ c. absurd (clash (below r kept c))) (λ c. c))
      where
        kept : Keeps r
        kept = (h.known r).0 (leaf_known u r l)

        clash : (c : Rev) × (parent_of t c ≡ Some r) × Keeps c → ⊥
        clash d = no_parent_of_leaf u r d.0 l ((h.parents d.0 r).1 (d.1, d.2, kept))

    leaf_kept : (r : Rev) → Keeps r → is_leaf t r ≡ true → is_leaf u r ≡ true
    leaf_kept r k l = childless_leaf u r ((h.known r).1 k) (by_cases (has_child u r) (λ c. absurd (clash (child_of u r c))) (λ c. c))
      where
        clash : Child u r → ⊥
        clash d = no_parent_of_leaf t r d.child l ((h.parents d.child r).0 d.parent).0

    pub IsLeafOf-restriction : (l : Leaf) → IsLeafOf u l ↔ (Keeps l.rev × IsLeafOf t l)
    IsLeafOf-restriction l = (
      λ g. let k = (h.known l.rev).0 (leaf_known u l.rev g.leaf) in (k, record { leaf = kept_leaf l.rev g.leaf; flag = sym (h.flags l.rev k) ∙ g.flag }),
      λ g. record { leaf = leaf_kept l.rev g.0 g.1.leaf; flag = h.flags l.rev g.0 ∙ g.1.flag },
    )

    pub IsForest-restriction : IsForest u
    IsForest-restriction = record {
      parents = λ r p e. let g = (h.parents r p).0 e in ((h.known p).1 g.2, (f.parents r p g.0).1);
      generations = λ r k. f.generations r (known r ((h.known r).0 k));
      bodies = λ r l. ap is_some (h.bodies r ((h.known r).0 (leaf_known u r l))) ∙ f.bodies r (kept_leaf r l);
    }

  pub IsInRange-restriction : ((r : Rev) → Keeps r → knows t r ≡ true) → IsInRange t → IsInRange u
  IsInRange-restriction known g = record {
    known = λ r k. g.known r (known r ((h.known r).0 k));
    body = λ r b e. g.body r b (sym (h.bodies r ((h.known r).0 (knows_bodied u r b e))) ∙ e);
  }
