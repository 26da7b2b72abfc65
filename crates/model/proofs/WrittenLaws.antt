-- The tree that an edit, a merge or a purge leaves is a tree in range, and so is the identity that an edit makes.
use Rattle.std.specs.Prelude.{◌≡◌, ℕ, ◌<◌, Bool, true, false, List, [], ◌∷◌, All, Option, Some, None, unwrap_or, Ok, refl}
use Rattle.std.proofs.Common.{sym, ap, subst, ◌∙◌, arith}
use Rattle.std.proofs.lemmas.List.Elements.{All-nil, All-cons, All-head}
use Rattle.model.specs.Map.{empty}
use Rattle.model.specs.Body.{Body, IsBody}
use Rattle.model.specs.Revision.{Rev, IsRev, child}
use Rattle.model.specs.Tree.{Tree, Leaf, IsForest, IsTree, IsInRange, is_leaf, winner}
use Rattle.model.specs.TreeChange.{IsPath}
use Rattle.model.specs.Command.{Edit, Merge, IsEdit, IsMerge}
use Rattle.model.specs.Edit.{Written, over_winner, parent_for, parent_path, edited, merged}
use Rattle.model.proofs.TreeLaws.{IsForest-empty, IsInRange-empty, leaf_known}
use Rattle.model.proofs.LeafLaws.{winner-greatest}
use Rattle.model.proofs.StemLaws.{IsTree-stem, IsInRange-stem}
use Rattle.model.proofs.UnionLaws.{IsTree-graft, IsInRange-graft}
use Rattle.model.proofs.EditLaws.{IsGrafted, merged-taken, edited-taken}
use Rattle.model.proofs.IdentityLaws.{IsRev-child}

pub record IsSound (t : Tree) : Type 0 where
  pub tree : IsTree t
  pub in_range : IsInRange t

-- of a document that may be there
abbrev pub AreSound : Option Tree → Type 0
AreSound o = (t : Tree) → o ≡ Some t → IsSound t

pub record IsSoundWrite (w : Written) : Type 0 where
  pub rev : IsRev w.rev
  pub tree : IsSound w.tree

-- the parent of what an edit makes is a leaf
winner_leaf : (t : Tree) (w : Leaf) → winner t ≡ Some w → is_leaf t w.rev ≡ true
winner_leaf t w is = ((winner-greatest t w).0 is).leaf.leaf

parent_is_leaf : (o : Option Tree) (named : Option Rev) (deleted : Bool) (p : Rev) → parent_for o named deleted ≡ Ok (Some p) → (t : Tree) × (o ≡ Some t) × (is_leaf t p ≡ true)
parent_is_leaf None named true p e = absurd cc
parent_is_leaf None None false p e = absurd cc
parent_is_leaf None (Some r) false p e = absurd cc
parent_is_leaf (Some t) (Some r) deleted p e = let leaf : is_leaf t p ≡ true = grind (arith, e) in (t, refl, leaf)
parent_is_leaf (Some t) None deleted p e = at (winner t) refl e
  where
    at : (o : Option Leaf) → winner t ≡ o → over_winner o deleted ≡ Ok (Some p) → (u : Tree) × (Some t ≡ Some u) × (is_leaf u p ≡ true)
    at None is e = absurd cc
    at (Some w) is e = let same : w.rev ≡ p = grind (arith, e) in (t, refl, ap (is_leaf t) (sym same) ∙ winner_leaf t w is)

module _ (limit : ℕ) (o : Option Tree) (positive : 0 < limit) (sound : AreSound o) where
  old_forest : IsForest (unwrap_or o empty) × IsInRange (unwrap_or o empty)
  old_forest = at o sound
    where
      at : (o : Option Tree) → AreSound o → IsForest (unwrap_or o empty) × IsInRange (unwrap_or o empty)
      at None h = (IsForest-empty, IsInRange-empty)
      at (Some t) h = let s = h t refl in (s.tree.forest, s.in_range)

  IsSoundWrite-grafted : (newest : Rev) (older : List Rev) (body : Body) (deleted : Bool) (w : Written) → IsPath (newest ∷ older) → All IsRev (newest ∷ older) → IsBody body → IsGrafted limit o newest (newest ∷ older) body deleted w → IsSoundWrite w
  IsSoundWrite-grafted newest older body deleted w path revs is_body g =
      let tree = IsTree-graft (newest ∷ older) body deleted (unwrap_or o empty) g.tree path old_forest.0 g.grafts in
      let ranged = IsInRange-graft (newest ∷ older) body deleted (unwrap_or o empty) g.tree path revs is_body old_forest.1 g.grafts in
      subst IsSoundWrite (sym g.is) (record { rev = All-head IsRev newest older revs; tree = record { tree = IsTree-stem limit g.tree positive tree; in_range = IsInRange-stem limit g.tree tree.forest ranged } })

  pub IsSoundWrite-merged : (m : Merge) (w : Written) → IsMerge m → merged limit o m ≡ Ok w → IsSoundWrite w
  IsSoundWrite-merged m w h e = IsSoundWrite-grafted m.newest m.older m.body m.deleted w h.path h.revs h.body (merged-taken limit o m w e)

  parents_in_range : (named : Option Rev) (deleted : Bool) (parent : Option Rev) → parent_for o named deleted ≡ Ok parent → All IsRev (parent_path parent)
  parents_in_range named deleted None e = All-nil IsRev
  parents_in_range named deleted (Some p) e = let k = parent_is_leaf o named deleted p e in All-cons IsRev p [] ((sound k.0 k.1).in_range.known p (leaf_known k.0 p k.2)) (All-nil IsRev)

  IsPath-child : (parent : Option Rev) (deleted : Bool) (body : Body) → All IsRev (parent_path parent) → IsPath (child parent deleted body ∷ parent_path parent)
  IsPath-child None deleted body revs = omega arith
  IsPath-child (Some p) deleted body revs = let r = All-head IsRev p [] revs in (refl, r.not_zero)

  pub IsSoundWrite-edited : (e : Edit) (w : Written) → IsEdit e → edited limit o e ≡ Ok w → IsSoundWrite w
  IsSoundWrite-edited e w h is =
      let taken = edited-taken limit o e w is in
      let parents = parents_in_range e.named e.deleted taken.parent taken.found in
      let revs = All-cons IsRev _ (parent_path taken.parent) (IsRev-child taken.parent e.deleted e.body taken.in_range) parents in
      IsSoundWrite-grafted _ (parent_path taken.parent) e.body e.deleted w (IsPath-child taken.parent e.deleted e.body parents) revs h.body taken.grafted
