-- A stem and a cut are restrictions to what the marks reach.
use Rattle.std.specs.Prelude.{◌≡◌, ◌↔◌, ℕ, ◌+◌, ◌<◌, ◌≤◌, List, [], ◌∷◌, length, Some, None, is_some, Contains, refl}
use Rattle.std.proofs.Common.{sym, ap, subst, ◌∙◌, arith}
use Rattle.model.specs.Map.{entries}
use Rattle.model.specs.Revision.{Rev, revs, last_generation}
use Rattle.model.specs.Tree.{Tree, Revision, IsForest, IsTree, IsInRange, IsNear, among}
use Rattle.model.specs.TreeChange.{IsHeld, IsRestriction, restrict, stem, cut}
use Rattle.model.proofs.ListLaws.{by_cases, Contains-head}
use Rattle.model.proofs.MapLaws.{Contains-entries}
use Rattle.model.proofs.TreeLaws.{known_of, leaf_known}
use Rattle.model.proofs.AncestorLaws.{ancestor_known}
use Rattle.model.proofs.ReachLaws.{IsReached}
use Rattle.model.proofs.RestrictLaws.{IsRestriction-restrict}
use Rattle.model.proofs.StemLaws.{near_known, stem-restriction, IsTree-stem, IsInRange-stem}
use Rattle.model.proofs.CutLaws.{held_known, cut-restriction, cut-None, IsTree-cut, IsInRange-cut}
use Rattle.revision_tree.specs.declared.node.Node.{Node}
use Rattle.revision_tree.specs.Nodes.{IsListOf, entry_of, entries_of}
use Rattle.tree_merge.specs.Reach.{is_reached}
use Rattle.tree_merge.proofs.Reached.{Within, is_reached-reached}

module _ (t : Tree) (f : IsForest t) where
  near_reached : (limit : ℕ) (r : Rev) → IsNear limit t r ↔ IsReached (Within limit [] 0) t r
  near_reached limit r = (
    λ h. record { leaf = h.leaf; at_leaf = h.at_leaf; steps = h.steps; allowed = (refl, omega (arith, h.few)); leads = h.leads },
    λ h. record { leaf = h.leaf; at_leaf = h.at_leaf; steps = h.steps; few = omega (arith, h.allowed.1); leads = h.leads },
  )

  pub stem-restrict : (limit : ℕ) → stem limit t ≡ restrict (is_reached limit [] t) t
  stem-restrict limit = (stem-restriction limit t f (restrict (is_reached limit [] t) t)).1 (IsRestriction-restrict (is_reached limit [] t) t (IsNear limit t) f (λ r. (
    λ h. (near_reached limit r).1 ((is_reached-reached limit [] t f r).0 h.0),
    λ h. ((is_reached-reached limit [] t f r).1 ((near_reached limit r).0 h), near_known limit t f r h),
  )))

  pub stem_list : (limit : ℕ) (nodes : List Node) → 0 < limit → IsTree t → IsInRange t → entries_of nodes ≡ entries (restrict (is_reached limit [] t) t) → IsListOf nodes (stem limit t)
  stem_list limit nodes some tree range e = record {
    entries = ap entries (stem-restrict limit) ∙ sym e;
    tree = IsTree-stem limit t some tree;
    range = IsInRange-stem limit t f range;
  }

  module _ (named : List Rev) (range : IsInRange t) where
    abbrev pub left : Tree
    left = restrict (is_reached last_generation named t) t

    held_reached : (r : Rev) → IsHeld named t r ↔ IsReached (Within last_generation named 0) t r
    held_reached r = (
      λ h.
          let far = (ancestor_known t f h.steps h.leaf r (leaf_known t h.leaf h.at_leaf) h.leads) in
          let most = (range.known h.leaf (leaf_known t h.leaf h.at_leaf)).in_range in
          record { leaf = h.leaf; at_leaf = h.at_leaf; steps = h.steps; allowed = (h.stays, few h.steps h.leaf.generation r.generation far.1 (f.generations r far.0) most); leads = h.leads },
      λ h. record { leaf = h.leaf; at_leaf = h.at_leaf; steps = h.steps; stays = h.allowed.0; leads = h.leads },
    )
      where
        few : (n a b : ℕ) → a ≡ b + n → 0 < b → a ≤ last_generation → n + 0 < last_generation
        few n a b e some most = omega (arith, e, some, most)

    restricted_held : IsRestriction (IsHeld named t) t left
    restricted_held = IsRestriction-restrict (is_reached last_generation named t) t (IsHeld named t) f (λ r. (
      λ h. (held_reached r).1 ((is_reached-reached last_generation named t f r).0 h.0),
      λ h. ((is_reached-reached last_generation named t f r).1 ((held_reached r).0 h), held_known named t f r h),
    ))

    pub cut_none : entries left ≡ [] → cut named t ≡ None
    cut_none e = (cut-None named t).1 (λ r l. by_cases (among named r) (λ h. h) (λ n. absurd (held r (record { leaf = r; at_leaf = l; stays = n; steps = 0; leads = refl }))))
      where
        held : (r : Rev) → IsHeld named t r → ⊥
        held r h =
            let v = known_of left r ((restricted_held.known r).1 h) in
            let c = subst (λ es. Contains es (r, v.revision)) e ((Contains-entries revs left r v.revision).1 v.got) in
            omega (arith, c.1)

    pub cut_some : (e : Rev × Revision) (es : List (Rev × Revision)) → entries left ≡ e ∷ es → cut named t ≡ Some left
    cut_some e es is =
        let got = (Contains-entries revs left e.0 e.1).0 (subst (λ xs. Contains xs e) (sym is) (Contains-head e es)) in
        (cut-restriction named t f left).1 (restricted_held, (e.0, ap is_some got))

    pub cut_list : (nodes : List Node) → (length nodes ≡ 0 → ⊥) → entries_of nodes ≡ entries left → (cut named t ≡ Some left) × IsListOf nodes left
    cut_list [] some e = absurd (some refl)
    cut_list (n ∷ ns) some e =
        let cuts = cut_some (entry_of n) (entries_of ns) (sym e) in
        (cuts, record { entries = sym e; tree = IsTree-cut named t f left cuts; range = IsInRange-cut named t f left cuts range })

    pub cut_empty : (nodes : List Node) → length nodes ≡ 0 → entries_of nodes ≡ entries left → cut named t ≡ None
    cut_empty [] none e = cut_none (sym e)
    cut_empty (n ∷ ns) none e = absurd (omega (arith, none))
