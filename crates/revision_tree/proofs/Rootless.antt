-- Nodes without a root that has one child.
use Rattle.std.specs.Prelude.{◌≡◌, ◌↔◌, ◌&&◌, Bool, true, false, not, List, All, Contains, Some, None, is_some, option_and_then, refl}
use Rattle.std.specs.Cmp.{both_ways}
use Rattle.std.specs.List.{filter_map}
use Rattle.std.proofs.Common.{sym, ap, ◌∙◌}
use Rattle.std.proofs.lemmas.Bool.{true≢false, and_from, and_parts}
use Rattle.std.proofs.lemmas.List.Elements.{All-weaker, All-contains_itself}
use Rattle.std.proofs.lemmas.Option.{none-some}
use Rattle.model.specs.Map.{entries, refine_list}
use Rattle.model.specs.Revision.{Rev, revs, same_rev}
use Rattle.model.specs.Tree.{Tree, Revision, IsForest, IsLeafOf, IsTree, Leaf, has_child, knows, parent_of}
use Rattle.model.specs.TreeChange.{IsRestriction, restrict}
use Rattle.model.proofs.PathLaws.{same_rev-symm}
use Rattle.model.proofs.RestrictLaws.{IsForest-restriction, IsInRange-restriction, IsLeafOf-restriction, IsRestriction-restrict}
use Rattle.model.proofs.TreeLaws.{child_of, has_child-parent, knows_child, leaf_known, no_parent_of_leaf}
use Rattle.revision_runs.specs.Changes.{IsDropped}
use Rattle.revision_runs.specs.TreeRuns.{IsOnlyChild}
use Rattle.revision_tree.specs.declared.node.Node.{Node}
use Rattle.revision_tree.specs.Nodes.{IsNodes, rows_of, tree_of}
use Rattle.revision_tree.specs.Trimmed.{is_other, row_without, IsChildOnly}
use Rattle.revision_tree.proofs.Grown.{nodes_marked, tree_marked, with_marks}
use Rattle.revision_tree.proofs.Listed.{entries-tree_of}
use Rattle.revision_tree.proofs.Places.{got}
use Rattle.revision_tree.proofs.Trimmed.{Said, entries_other, kept, other_of, rows_without}

module _ (ns : List Node) (h : IsNodes ns) (r child : Rev) (root : parent_of (tree_of ns) r ≡ None) (only : IsOnlyChild (tree_of ns) r child) where
  abbrev t : Tree
  t = tree_of ns

  abbrev u : Tree
  u = restrict (is_other r) t

  abbrev Stays : Rev → Type 0
  Stays q = (is_other r q ≡ true) × (knows t q ≡ true)

  restriction : IsRestriction Stays t u
  restriction = IsRestriction-restrict (is_other r) t Stays h.tree.forest (λ q. (λ k. k, λ k. k))

  -- a child of what stays stays, since the root is nobody's child
  child_stays : (d q : Rev) → parent_of t d ≡ Some q → Stays d
  child_stays d q up = (other_of r d (λ e. none-some q (sym root ∙ ap (parent_of t) (sym e) ∙ up)), knows_child t d q up)

  below : (q : Rev) → Stays q → has_child t q ≡ true → (c : Rev) × (parent_of t c ≡ Some q) × Stays c
  below q k has = let d = child_of t q has in (d.child, d.parent, child_stays d.child q d.parent)

  kept_children : (q : Rev) → is_other r q ≡ true → knows t q ≡ true → has_child t q ≡ has_child u q
  kept_children q other k = both_ways (has_child t q) (has_child u q)
      (λ has. let d = below q (other, k) has in has_child-parent u q d.0 ((restriction.parents d.0 q).1 (d.1, d.2, (other, k))))
      (λ has. let d = child_of u q has in has_child-parent t q d.child ((restriction.parents d.child q).0 d.parent).0)

  whole : IsTree u
  whole = record {
    forest = IsForest-restriction Stays t u restriction h.tree.forest (λ q k. k.1) below;
    some_known = (child, (restriction.known child).1 (child_stays child r only.child));
  }

  pub rootless_forest : IsForest u
  rootless_forest = whole.forest

  pub rootless_dropped : IsDropped t u r
  rootless_dropped = record {
    root = (h.tree.forest.parents child r only.child).0;
    top = root;
    known = λ q. both_ways (knows u q) (knows t q && not (same_rev q r))
        (λ k. let x = (restriction.known q).0 k in and_from (knows t q) (not (same_rev q r)) x.1 (ap not (same_rev-symm q r) ∙ x.0))
        (λ k. let x = and_parts (knows t q) (not (same_rev q r)) k in (restriction.known q).1 (ap not (same_rev-symm r q) ∙ x.1, x.0));
    parents = λ q p. (
      λ up. let x = (restriction.parents q p).0 up in (x.0, is_off (same_rev p r) (ap not (same_rev-symm p r) ∙ x.2.0)),
      λ x. (restriction.parents q p).1 (x.0, child_stays q p x.0, (ap not (same_rev-symm r p ∙ x.1), (h.tree.forest.parents q p x.0).0)),
    );
  }
    where
      is_off : (b : Bool) → not b ≡ true → b ≡ false
      is_off true e = absurd (true≢false (sym e))
      is_off false e = refl

  -- the root was no leaf
  pub rootless_leaf : (l : Leaf) → IsLeafOf u l ↔ IsLeafOf t l
  rootless_leaf l =
      let is = IsLeafOf-restriction Stays t u restriction h.tree.forest (λ q k. k.1) below l in (
        λ x. (is.0 x).1,
        λ x. is.1 ((other_of r l.rev (λ e. no_parent_of_leaf t l.rev child x.leaf (only.child ∙ ap (λ q. Some q) (sym e))), leaf_known t l.rev x.leaf), x),
      )

  pub only_listed : All (IsChildOnly r child) ns
  only_listed = All-weaker (Contains ns) (IsChildOnly r child) (λ n c e. only.only n.rev (ap (option_and_then (λ (v : Revision). v.parent)) (got ns h.sorted n c) ∙ e)) ns (All-contains_itself ns)

  module _ (made : List Node) (is : rows_of made ≡ filter_map (row_without r) (rows_of ns)) where
    made_rows : rows_of made ≡ entries (with_marks (has_child u) u)
    made_rows =
        is ∙ rows_without r (has_child u) ns (All-weaker (Contains ns) (Said r (has_child u)) (λ n c other. h.inner n c ∙ kept_children n.rev other (ap is_some (got ns h.sorted n c))) ns (All-contains_itself ns))
        ∙ ap (λ es. refine_list revs (λ q v. Some (v, has_child u q)) es) (ap (refine_list revs (kept r)) (sym (entries-tree_of ns h.sorted)) ∙ sym (entries_other r t))

    pub rootless_nodes : IsNodes made
    rootless_nodes = nodes_marked made u (has_child u) made_rows (λ q. refl) whole (IsInRange-restriction Stays t u restriction (λ q k. k.1) h.range)

    pub rootless_tree : tree_of made ≡ restrict (is_other r) (tree_of ns)
    rootless_tree = tree_marked made u (has_child u) made_rows
