-- A top that goes, in two steps: first it loses its parent, then it goes as a root.
use Rattle.std.specs.Prelude.{◌≡◌, ℕ, ◌↔◌, ◌⊎◌, ◌&&◌, Bool, true, false, cond, not, Option, Some, None, is_some, option_map, option_and_then, unwrap_or, refl, if◌then◌else◌}
use Rattle.std.proofs.Common.{sym, ap, subst, ◌∙◌, ⊎_elim}
use Rattle.std.proofs.lemmas.Bool.{true≢false, and_from, and_parts}
use Rattle.std.proofs.lemmas.Option.{none-some}
use Rattle.std.specs.Cmp.{both_ways}
use Rattle.model.specs.Map.{get, refine, same_key-equal, same_key_itself}
use Rattle.model.specs.Revision.{Rev, revs, same_rev}
use Rattle.model.specs.Tree.{Tree, Revision, IsForest, IsNear, body_of, is_deleted, is_leaf, knows, parent_of}
use Rattle.model.proofs.ListLaws.{by_cases}
use Rattle.model.proofs.MapLaws.{get-refine_all}
use Rattle.model.proofs.TreeLaws.{is_leaf-childless, knows_child}
use Rattle.revision_runs.specs.TreeRuns.{IsOneChild, IsTop}
use Rattle.revision_runs.specs.Changes.{IsDropped, IsUnlinked, orphaned}
use Rattle.revision_runs.proofs.Dues.{without_top, without_top_restriction}
use Rattle.revision_runs.proofs.Moving.{not_same, other_of, same_itself}

-- ---- with no parent

module _ (t : Tree) (c : Rev) where
  pub orphaned_at : (q : Rev) → get (orphaned c t) q ≡ option_map (λ (v : Revision). if same_rev q c then record v { parent = None } else v) (get t q)
  unfolding orphaned
  orphaned_at q = get-refine_all {O = revs} (λ (r : Rev) (v : Revision). if same_rev r c then record v { parent = None } else v) t q

  pub knows-orphaned : (q : Rev) → knows (orphaned c t) q ≡ knows t q
  knows-orphaned q = ap is_some (orphaned_at q) ∙ at (get t q)
    where
      at : (o : Option Revision) → is_some (option_map (λ (v : Revision). if same_rev q c then record v { parent = None } else v) o) ≡ is_some o
      at None = refl
      at (Some v) = refl

  pub body_of-orphaned : (q : Rev) → body_of (orphaned c t) q ≡ body_of t q
  body_of-orphaned q = ap (option_and_then (λ (v : Revision). v.body)) (orphaned_at q) ∙ at (same_rev q c) (get t q)
    where
      at : (b : Bool) (o : Option Revision) → option_and_then (λ (v : Revision). v.body) (option_map (λ (v : Revision). if b then record v { parent = None } else v) o) ≡ option_and_then (λ (v : Revision). v.body) o
      at true None = refl
      at true (Some v) = refl
      at false None = refl
      at false (Some v) = refl

  pub flag_of-orphaned : (q : Rev) → is_deleted (orphaned c t) q ≡ is_deleted t q
  flag_of-orphaned q = ap (λ (o : Option Revision). unwrap_or (option_map (λ (v : Revision). v.deleted) o) false) (orphaned_at q) ∙ at (same_rev q c) (get t q)
    where
      at : (b : Bool) (o : Option Revision) → unwrap_or (option_map (λ (v : Revision). v.deleted) (option_map (λ (v : Revision). if b then record v { parent = None } else v) o)) false ≡ unwrap_or (option_map (λ (v : Revision). v.deleted) o) false
      at true None = refl
      at true (Some v) = refl
      at false None = refl
      at false (Some v) = refl

  pub parent_of-orphaned : (q : Rev) → parent_of (orphaned c t) q ≡ cond (same_rev q c) None (parent_of t q)
  parent_of-orphaned q = ap (option_and_then (λ (v : Revision). v.parent)) (orphaned_at q) ∙ at (same_rev q c) (get t q)
    where
      at : (b : Bool) (o : Option Revision) → option_and_then (λ (v : Revision). v.parent) (option_map (λ (v : Revision). if b then record v { parent = None } else v) o) ≡ cond b None (option_and_then (λ (v : Revision). v.parent) o)
      at true None = refl
      at true (Some v) = refl
      at false None = refl
      at false (Some v) = refl

  parent_here : parent_of (orphaned c t) c ≡ None
  parent_here = parent_of-orphaned c ∙ ap (λ b. cond b None (parent_of t c)) (same_itself c)

  pub parent_other : (q : Rev) → same_rev q c ≡ false → parent_of (orphaned c t) q ≡ parent_of t q
  parent_other q s = parent_of-orphaned q ∙ ap (λ b. cond b None (parent_of t q)) s

  pub parent_had : (q p : Rev) → parent_of (orphaned c t) q ≡ Some p → (same_rev q c ≡ false) × (parent_of t q ≡ Some p)
  parent_had q p up = by_cases (same_rev q c)
      (λ s. absurd (none-some p (sym (parent_of-orphaned q ∙ ap (λ b. cond b None (parent_of t q)) s) ∙ up)))
      (λ s. (s, sym (parent_other q s) ∙ up))

  pub orphaned_unlinked : (p : Rev) → parent_of t c ≡ Some p → IsUnlinked t (orphaned c t) c p
  orphaned_unlinked p up = record { parent = up; known = knows-orphaned; none = parent_here; others = parent_other }

  -- where its parent has another child
  pub IsForest-orphaned : IsForest t → (p : Rev) → IsOneChild t p c → IsForest (orphaned c t)
  IsForest-orphaned f p two = record {
    parents = λ r q up. let h = parent_had r q up in let g = f.parents r q h.1 in (knows-orphaned q ∙ g.0, g.1);
    generations = λ r k. f.generations r (sym (knows-orphaned r) ∙ k);
    bodies = λ r leaf. ap is_some (body_of-orphaned r) ∙ f.bodies r (leaf_was r leaf);
  }
    where
      leaf_was : (r : Rev) → is_leaf (orphaned c t) r ≡ true → is_leaf t r ≡ true
      leaf_was r leaf =
          let h = (is_leaf-childless (orphaned c t) r).0 leaf in
          (is_leaf-childless t r).1 (
            sym (knows-orphaned r) ∙ h.0,
            λ d up. by_cases (same_rev d c)
                (λ s.
                let here : parent_of t c ≡ Some r = ap (parent_of t) (sym (same_key-equal revs d c s)) ∙ up in
                h.1 two.other (parent_other two.other (other_of two.other c two.apart) ∙ two.sibling ∙ sym two.child ∙ here))
                (λ s. h.1 d (parent_other d s ∙ up)),
          )

-- ---- as a root

module _ (t : Tree) (f : IsForest t) (top : Rev) (limit : ℕ) (is_top : IsTop t top) (far : IsNear limit t top → ⊥) where
  known_gone : (q : Rev) → knows (without_top t f top limit is_top far) q ≡ (knows t q && not (same_rev q top))
  known_gone q = both_ways (knows (without_top t f top limit is_top far) q) (knows t q && not (same_rev q top))
      (λ k. let h = ((without_top_restriction t f top limit is_top far).known q).0 k in and_from (knows t q) (not (same_rev q top)) h.0 (ap not h.1))
      (λ k. let h = and_parts (knows t q) (not (same_rev q top)) k in ((without_top_restriction t f top limit is_top far).known q).1 (h.0, is_not (same_rev q top) h.1))
    where
      is_not : (b : Bool) → not b ≡ true → b ≡ false
      is_not true h = absurd (true≢false (sym h))
      is_not false h = refl

  pub orphan_dropped : IsDropped (orphaned top t) (without_top t f top limit is_top far) top
  orphan_dropped = record {
    root = knows-orphaned t top top ∙ is_top.0;
    top = parent_here t top;
    known = λ q. known_gone q ∙ ap (λ b. b && not (same_rev q top)) (sym (knows-orphaned t top q));
    parents = λ q p. (
      λ up. let h = ((without_top_restriction t f top limit is_top far).parents q p).0 up in (parent_other t top q h.1.1 ∙ h.0, h.2.1),
      λ h.
          let had = parent_had t top q p h.0 in
          ((without_top_restriction t f top limit is_top far).parents q p).1 (had.1, (knows_child t q p had.1, had.0), ((f.parents q p had.1).0, h.1)),
    );
  }

module _ (t : Tree) (f : IsForest t) (top : Rev) (limit : ℕ) (is_top : IsTop t top) (far : IsNear limit t top → ⊥) (root : parent_of t top ≡ None) where
  pub root_dropped : IsDropped t (without_top t f top limit is_top far) top
  root_dropped = record {
    root = is_top.0;
    top = root;
    known = known_gone t f top limit is_top far;
    parents = λ q p. (
      λ up. let h = ((without_top_restriction t f top limit is_top far).parents q p).0 up in (h.0, h.2.1),
      λ h.
          let other : same_rev q top ≡ false = other_of q top (λ e. none-some p (sym root ∙ ap (parent_of t) (sym e) ∙ h.0)) in
          ((without_top_restriction t f top limit is_top far).parents q p).1 (h.0, (knows_child t q p h.0, other), ((f.parents q p h.0).0, h.1)),
    );
  }
