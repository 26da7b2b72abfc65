-- The union of a document's revisions and a path is one tree, and a document's.
use Rattle.std.specs.Prelude.{◌≡◌, ◌↔◌, ◌⊎◌, Bool, true, false, List, [], ◌∷◌, Option, Some, None, is_some, All, refl}
use Rattle.std.proofs.Common.{sym, ap, subst, ◌∙◌, ⊎_elim, inl, inr}
use Rattle.std.proofs.lemmas.Bool.{true≢false, or_cases, or_left, or_right}
use Rattle.std.proofs.lemmas.Option.{same_Some}
use Rattle.std.proofs.lemmas.List.Elements.{All-contains}
use Rattle.model.specs.Body.{Body, IsBody}
use Rattle.model.specs.Revision.{Rev, IsRev, same_rev, same_rev-equal}
use Rattle.model.specs.Tree.{Tree, IsForest, IsTree, IsInRange, knows, parent_of, body_of, is_deleted, is_at, has_child, is_leaf}
use Rattle.model.specs.TreeChange.{IsPath, IsUnion, Contradicts, is_pair, graft}
use Rattle.model.proofs.ListLaws.{by_cases, same_option}
use Rattle.model.proofs.TreeLaws.{is_at-equal, leaf_known, childless_leaf, no_parent_of_leaf, Child, child_of, same_trees}
use Rattle.model.proofs.AncestorLaws.{Contains-among}
use Rattle.model.proofs.PathLaws.{first_among, pair_members, member_generation, pair_above}
use Rattle.model.proofs.GraftLaws.{IsUnion-graft, graft-None}

module _ (newest : Rev) (older : List Rev) (body : Body) (deleted : Bool) (t u : Tree) (h : IsUnion newest older body deleted t u) where
  abbrev path : List Rev
  path = newest ∷ older

  -- there is one union
  pub same_union : (v : Tree) → IsUnion newest older body deleted t v → u ≡ v
  same_union v g = same_trees u v (λ r. h.known r ∙ sym (g.known r)) parents (λ r. (both r).0) (λ r. (both r).1)
    where
      to : (r p : Rev) → is_at (parent_of u r) p ≡ is_at (parent_of v r) p
      to r p = h.parents r p ∙ sym (g.parents r p)

      parents : (r : Rev) → parent_of u r ≡ parent_of v r
      parents r = same_option _ _ (λ p. (
        λ e. (is_at-equal _ p).0 (sym (to r p) ∙ (is_at-equal _ p).1 e),
        λ e. (is_at-equal _ p).0 (to r p ∙ (is_at-equal _ p).1 e),
      ))

      at_newest : (o : Option Body) → body_of t newest ≡ o → (body_of u newest ≡ body_of v newest) × (is_deleted u newest ≡ is_deleted v newest)
      at_newest None e = ((h.had_none e).0 ∙ sym (g.had_none e).0, (h.had_none e).1 ∙ sym (g.had_none e).1)
      at_newest (Some b) e = ((h.had_body b e).0 ∙ sym (g.had_body b e).0, (h.had_body b e).1 ∙ sym (g.had_body b e).1)

      both : (r : Rev) → (body_of u r ≡ body_of v r) × (is_deleted u r ≡ is_deleted v r)
      both r = by_cases (same_rev newest r)
          (λ e. subst (λ q. (body_of u q ≡ body_of v q) × (is_deleted u q ≡ is_deleted v q)) ((same_rev-equal newest r).0 e) (at_newest (body_of t newest) refl))
          (λ n. ((h.others r n).0 ∙ sym (g.others r n).0, (h.others r n).1 ∙ sym (g.others r n).1))

  -- where a parent in the union comes from
  parent_cases : (r p : Rev) → parent_of u r ≡ Some p → (parent_of t r ≡ Some p) ⊎ (is_pair path r p ≡ true)
  parent_cases r p e = ⊎_elim (λ a. inl ((is_at-equal _ p).0 a)) inr (or_cases _ _ (sym (h.parents r p) ∙ (is_at-equal _ p).1 e))

  old_parent : (r p : Rev) → parent_of t r ≡ Some p → parent_of u r ≡ Some p
  old_parent r p e = (is_at-equal _ p).0 (h.parents r p ∙ or_left _ _ ((is_at-equal _ p).1 e))

  new_parent : (r p : Rev) → is_pair path r p ≡ true → parent_of u r ≡ Some p
  new_parent r p e = (is_at-equal _ p).0 (h.parents r p ∙ or_right (is_at (parent_of t r) p) _ e)

  -- what makes a union contradicts nothing
  pub union_agrees : Contradicts t path → ⊥
  union_agrees c =
      let same : c.parent ≡ c.next = same_Some c.parent c.next (sym (old_parent c.child c.parent c.known) ∙ new_parent c.child c.next c.pair) in
      true≢false (sym ((same_rev-equal c.parent c.next).1 same) ∙ c.other)

  newest_bodied : is_some (body_of u newest) ≡ true
  newest_bodied = at (body_of t newest) refl
    where
      at : (o : Option Body) → body_of t newest ≡ o → is_some (body_of u newest) ≡ true
      at None e = ap is_some (h.had_none e).0
      at (Some b) e = ap is_some (h.had_body b e).0

  module _ (is : IsPath path) (f : IsForest t) where
    old_leaf : (r : Rev) → is_leaf u r ≡ true → knows t r ≡ true → is_leaf t r ≡ true
    old_leaf r l k = childless_leaf t r k (by_cases (has_child t r) (λ c. absurd (clash (child_of t r c))) (λ c. c))
      where
        clash : Child t r → ⊥
        clash d = no_parent_of_leaf u r d.child l (old_parent d.child r d.parent)

    leaf_bodied : (r : Rev) → is_leaf u r ≡ true → same_rev newest r ≡ false → is_some (body_of u r) ≡ true
    leaf_bodied r l n = ⊎_elim
        (λ k. ap is_some (h.others r n).0 ∙ f.bodies r (old_leaf r l k))
        (λ m. let c = pair_above newest older r m n in absurd (no_parent_of_leaf u r c.0 l (new_parent c.0 r c.1)))
        (or_cases _ _ (sym (h.known r) ∙ leaf_known u r l))

    pub IsTree-union : IsTree u
    IsTree-union = record {
      forest = record {
        parents = λ r p e. ⊎_elim
            (λ a. let g = f.parents r p a in (h.known p ∙ or_left _ _ g.0, g.1))
            (λ a. let m = pair_members path r p is a in (h.known p ∙ or_right (knows t p) _ m.1, m.2))
            (parent_cases r p e);
        generations = λ r k. ⊎_elim (f.generations r) (λ m. (member_generation newest older r is m).0) (or_cases _ _ (sym (h.known r) ∙ k));
        bodies = λ r l. by_cases (same_rev newest r)
            (λ e. subst (λ q. is_some (body_of u q) ≡ true) ((same_rev-equal newest r).0 e) newest_bodied)
            (leaf_bodied r l);
      };
      some_known = (newest, h.known newest ∙ or_right (knows t newest) _ (first_among newest older));
    }

  pub IsInRange-union : All IsRev path → IsBody body → IsInRange t → IsInRange u
  IsInRange-union revs ranged g = record {
    known = λ r k. ⊎_elim (g.known r) (λ m. All-contains IsRev path r revs ((Contains-among path r).0 m)) (or_cases _ _ (sym (h.known r) ∙ k));
    body = λ r b e. by_cases (same_rev newest r)
        (λ s. newest_body (body_of t newest) refl b (ap (body_of u) ((same_rev-equal newest r).0 s) ∙ e))
        (λ n. g.body r b (sym (h.others r n).0 ∙ e));
  }
    where
      newest_body : (o : Option Body) → body_of t newest ≡ o → (b : Body) → body_of u newest ≡ Some b → IsBody b
      newest_body None is b e = subst IsBody (same_Some body b (sym (h.had_none is).0 ∙ e)) ranged
      newest_body (Some a) is b e = g.body newest b (is ∙ sym (h.had_body a is).0 ∙ e)

-- ---- so of a graft

pub graft-union : (newest : Rev) (older : List Rev) (body : Body) (deleted : Bool) (t u : Tree) → IsPath (newest ∷ older)
    → (graft (newest ∷ older) body deleted t ≡ Some u) ↔ IsUnion newest older body deleted t u
graft-union newest older body deleted t u path = (IsUnion-graft newest older body deleted t u path, λ h. at h (graft (newest ∷ older) body deleted t) refl)
  where
    at : IsUnion newest older body deleted t u → (o : Option Tree) → graft (newest ∷ older) body deleted t ≡ o → o ≡ Some u
    at h None e = absurd (union_agrees newest older body deleted t u h ((graft-None (newest ∷ older) body deleted t).0 e))
    at h (Some v) e = ap Some (same_union newest older body deleted t v (IsUnion-graft newest older body deleted t v path e) u h)

pub IsTree-graft : (path : List Rev) (body : Body) (deleted : Bool) (t u : Tree) → IsPath path → IsForest t → graft path body deleted t ≡ Some u → IsTree u
IsTree-graft [] body deleted t u path f e = absurd path
IsTree-graft (newest ∷ older) body deleted t u path f e =
    IsTree-union newest older body deleted t u (IsUnion-graft newest older body deleted t u path e) path f

pub IsInRange-graft : (path : List Rev) (body : Body) (deleted : Bool) (t u : Tree) → IsPath path → All IsRev path → IsBody body → IsInRange t
    → graft path body deleted t ≡ Some u → IsInRange u
IsInRange-graft [] body deleted t u path revs ranged g e = absurd path
IsInRange-graft (newest ∷ older) body deleted t u path revs ranged g e =
    IsInRange-union newest older body deleted t u (IsUnion-graft newest older body deleted t u path e) revs ranged g
