-- A strip drops the bodies of the revisions that are no leaves, and nothing else.
use Rattle.std.specs.Prelude.{◌≡◌, Bool, true, false, cond, Option, Some, None, is_some, option_map, if◌then◌else◌, refl}
use Rattle.std.proofs.Common.{sym, ap, ◌∙◌}
use Rattle.std.proofs.lemmas.Bool.{cond-true, cond_both}
use Rattle.std.proofs.lemmas.Option.{none-some}
use Rattle.model.specs.Map.{get}
use Rattle.model.specs.Body.{Body}
use Rattle.model.specs.Revision.{Rev}
use Rattle.model.specs.Tree.{Revision, Tree, IsForest, IsTree, IsInRange, knows, parent_of, body_of, is_deleted, is_leaf, leaves}
use Rattle.model.specs.TreeChange.{strip}
use Rattle.model.proofs.MapLaws.{get-refine_all}
use Rattle.model.proofs.TreeLaws.{parent_in, body_in, flag_in, kept_by, same_leaf_test, same_trees}
use Rattle.model.proofs.LeafLaws.{same_leaves}

-- a revision without its body, unless it is a leaf
abbrev bared : Bool → Revision → Revision
bared leaf v = if leaf then v else record v { body = None }

-- what is the same without a body is the same after
same_bared : {A : Type 0} (said : Revision → A) → ((v : Revision) → said (record v { body = None }) ≡ said v) → (leaf : Bool) (v : Revision) → said (bared leaf v) ≡ said v
same_bared said same leaf v = cond_both leaf v (record v { body = None }) (λ w. said w ≡ said v) (λ _. refl) (λ _. same v)

module _ (t : Tree) where
  pub get-strip : (r : Rev) → get (strip t) r ≡ option_map (bared (is_leaf t r)) (get t r)
  unfolding strip
  get-strip r = get-refine_all (λ q v. bared (is_leaf t q) v) t r

  pub knows-strip : (r : Rev) → knows (strip t) r ≡ knows t r
  knows-strip r = ap is_some (get-strip r) ∙ kept_by is_some (bared (is_leaf t r)) (λ v. refl) (get t r)

  pub parent_of-strip : (r : Rev) → parent_of (strip t) r ≡ parent_of t r
  parent_of-strip r = ap parent_in (get-strip r) ∙ kept_by parent_in (bared (is_leaf t r)) (same_bared (λ v. v.parent) (λ v. refl) (is_leaf t r)) (get t r)

  pub is_deleted-strip : (r : Rev) → is_deleted (strip t) r ≡ is_deleted t r
  is_deleted-strip r = ap flag_in (get-strip r) ∙ kept_by flag_in (bared (is_leaf t r)) (same_bared (λ v. v.deleted) (λ v. refl) (is_leaf t r)) (get t r)

  pub body_of-strip : (r : Rev) → body_of (strip t) r ≡ cond (is_leaf t r) (body_of t r) None
  body_of-strip r = ap body_in (get-strip r) ∙ same (is_leaf t r) (get t r)
    where
      same : (b : Bool) (o : Option Revision) → body_in (option_map (bared b) o) ≡ cond b (body_in o) None
      same true None = refl
      same true (Some v) = refl
      same false None = refl
      same false (Some v) = refl

  pub is_leaf-strip : (r : Rev) → is_leaf (strip t) r ≡ is_leaf t r
  is_leaf-strip = same_leaf_test (strip t) t knows-strip parent_of-strip

  pub leaves-strip : leaves (strip t) ≡ leaves t
  leaves-strip = same_leaves (strip t) t (λ l. (
    λ h. record { leaf = sym (is_leaf-strip l.rev) ∙ h.leaf; flag = sym (is_deleted-strip l.rev) ∙ h.flag },
    λ h. record { leaf = is_leaf-strip l.rev ∙ h.leaf; flag = is_deleted-strip l.rev ∙ h.flag },
  ))

  kept_body : (r : Rev) (b : Body) → body_of (strip t) r ≡ Some b → body_of t r ≡ Some b
  kept_body r b e = at (is_leaf t r) (sym (body_of-strip r) ∙ e)
    where
      at : (l : Bool) → cond l (body_of t r) None ≡ Some b → body_of t r ≡ Some b
      at true e = e
      at false e = absurd (none-some b e)

  pub IsForest-strip : IsForest t → IsForest (strip t)
  IsForest-strip f = record {
    parents = λ r p e. let g = f.parents r p (sym (parent_of-strip r) ∙ e) in (knows-strip p ∙ g.0, g.1);
    generations = λ r k. f.generations r (sym (knows-strip r) ∙ k);
    bodies = λ r l. let leaf = sym (is_leaf-strip r) ∙ l in ap is_some (body_of-strip r ∙ cond-true _ (body_of t r) None leaf) ∙ f.bodies r leaf;
  }

  pub IsTree-strip : IsTree t → IsTree (strip t)
  IsTree-strip h = record { forest = IsForest-strip h.forest; some_known = (h.some_known.0, knows-strip h.some_known.0 ∙ h.some_known.1) }

  pub IsInRange-strip : IsInRange t → IsInRange (strip t)
  IsInRange-strip h = record { known = λ r k. h.known r (sym (knows-strip r) ∙ k); body = λ r b e. h.body r b (kept_body r b e) }

pub strip-strip : (t : Tree) → strip (strip t) ≡ strip t
strip-strip t = same_trees (strip (strip t)) (strip t) (knows-strip (strip t)) (parent_of-strip (strip t)) bodies (is_deleted-strip (strip t))
  where
    twice : (b : Bool) (o : Option Body) → cond b (cond b o None) None ≡ cond b o None
    twice true o = refl
    twice false o = refl

    bodies : (r : Rev) → body_of (strip (strip t)) r ≡ body_of (strip t) r
    bodies r =
        body_of-strip (strip t) r ∙ (λ i. cond (is_leaf-strip t r i) (body_of-strip t r i) None)
        ∙ twice (is_leaf t r) (body_of t r) ∙ sym (body_of-strip t r)
