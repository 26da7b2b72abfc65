-- Nodes of which a child of a fork has lost its parent.
use Rattle.std.specs.Prelude.{◌≡◌, Bool, true, false, List, Contains, Option, Some, None, option_map, is_some, if◌then◌else◌, unwrap_or, refl}
use Rattle.std.specs.FinMap.Entries.{find, put}
use Rattle.std.proofs.Common.{sym, ap, subst, ◌∙◌}
use Rattle.std.proofs.lemmas.List.Elements.{All-weaker, All-contains_itself}
use Rattle.model.specs.Map.{Map, entries, get, same_key-equal, same_key_itself, same_map, refine_list}
use Rattle.model.specs.Map as maps
use Rattle.model.specs.Revision.{Rev, rev_cmp, revs, same_rev}
use Rattle.model.specs.Tree.{Tree, Revision, IsInRange, IsTree, has_child, knows}
use Rattle.model.specs.TreeChange.{unseen}
use Rattle.model.proofs.ListLaws.{by_cases}
use Rattle.model.proofs.LookupLaws.{get-put_same, get-put_other}
use Rattle.model.proofs.TreeLaws.{known_of, knows_child}
use Rattle.revision_runs.specs.Changes.{orphaned}
use Rattle.revision_runs.specs.TreeRuns.{IsOneChild}
use Rattle.revision_runs.proofs.Loosening.{children_same}
use Rattle.revision_runs.proofs.Steps.{IsForest-orphaned, body_of-orphaned, knows-orphaned, orphaned_at}
use Rattle.revision_tree.specs.declared.node.Node.{Node}
use Rattle.revision_tree.specs.Growth.{seen_in}
use Rattle.revision_tree.specs.Nodes.{IsNodes, rows_of, tree_of}
use Rattle.revision_tree.specs.Orphans.{with_no_parent}
use Rattle.revision_tree.proofs.Grown.{get-with_marks, marking, nodes_marked, rows_marked, tree_marked, with_marks}
use Rattle.revision_tree.proofs.Listed.{entries-tree_of}
use Rattle.revision_tree.proofs.Places.{node_known}
use Rattle.revision_tree.proofs.Rowed.{row_found}

-- the rows of nodes, by their tree
pub rows_tree : (ns : List Node) → IsNodes ns → rows_of ns ≡ entries (with_marks (has_child (tree_of ns)) (tree_of ns))
rows_tree ns h =
    rows_marked (has_child (tree_of ns)) ns (All-weaker (Contains ns) (λ n. n.inner ≡ has_child (tree_of ns) n.rev) h.inner ns (All-contains_itself ns))
    ∙ ap (refine_list revs (λ q v. Some (marking (has_child (tree_of ns)) q v))) (sym (entries-tree_of ns h.sorted))

pub known_row : (ns : List Node) → IsNodes ns → (r : Rev) → knows (tree_of ns) r ≡ true → is_some (find rev_cmp r (rows_of ns)) ≡ true
known_row ns h r k =
    let n = node_known ns h.sorted r k in
    ap (λ q. is_some (find rev_cmp q (rows_of ns))) (sym n.rev) ∙ ap is_some (row_found ns n.node h.sorted n.listed)

module _ (ns : List Node) (h : IsNodes ns) (c p : Rev) (two : IsOneChild (tree_of ns) p c) where
  abbrev t : Tree
  t = tree_of ns

  abbrev u : Tree
  u = orphaned c t

  abbrev m : Rev → Bool
  m = has_child t

  abbrev M : Map revs (Revision × Bool)
  M = with_marks m t

  abbrev X : Revision × Bool
  X = with_no_parent (seen_in (entries M) c)

  abbrev bared : Rev → Revision → Revision
  bared q v = if same_rev q c then record v { parent = None } else v

  at_c : get (maps.put M c X) c ≡ get (with_marks m u) c
  at_c =
      let k = known_of t c (knows_child t c p two.child) in
      let v = k.revision in
      let seen : seen_in (entries M) c ≡ (v, m c) = ap (λ o. unwrap_or o (unseen, false)) (get-with_marks m t c ∙ ap (option_map (marking m c)) k.got) in
      get-put_same {O = revs} M c X c (same_key_itself revs c)
      ∙ ap (λ (w : Revision × Bool). Some (with_no_parent w)) seen
      ∙ ap (λ b. Some ((if b then record v { parent = None } else v), m c)) (sym (same_key_itself revs c))
      ∙ ap (option_map (marking m c)) (ap (option_map (bared c)) (sym k.got) ∙ sym (orphaned_at t c c))
      ∙ sym (get-with_marks m u c)

  as_it_was : (q : Rev) → same_rev q c ≡ false → (o : Option Revision) → o ≡ option_map (bared q) o
  as_it_was q s None = refl
  as_it_was q s (Some v) = ap (λ b. Some (if b then record v { parent = None } else v)) (sym s)

  at_other : (q : Rev) → same_rev q c ≡ false → get (maps.put M c X) q ≡ get (with_marks m u) q
  at_other q s =
      get-put_other {O = revs} M c X q s ∙ get-with_marks m t q
      ∙ ap (option_map (marking m q)) (as_it_was q s (get t q) ∙ sym (orphaned_at t c q))
      ∙ sym (get-with_marks m u q)

  at : (q : Rev) → get (maps.put M c X) q ≡ get (with_marks m u) q
  at q = by_cases (same_rev q c) (λ s. subst (λ z. get (maps.put M c X) z ≡ get (with_marks m u) z) (sym (same_key-equal revs q c s)) at_c) (at_other q)

  whole : IsTree u
  whole = record { forest = IsForest-orphaned t c h.tree.forest p two; some_known = (h.tree.some_known.0, knows-orphaned t c h.tree.some_known.0 ∙ h.tree.some_known.1) }

  range : IsInRange u
  range = record {
    known = λ r k. h.range.known r (sym (knows-orphaned t c r) ∙ k);
    body = λ r b e. h.range.body r b (sym (body_of-orphaned t c r) ∙ e);
  }

  module _ (made : List Node) (is : rows_of made ≡ put rev_cmp c (with_no_parent (seen_in (rows_of ns) c)) (rows_of ns)) where
    made_rows : rows_of made ≡ entries (with_marks m u)
    made_rows = is ∙ (λ i. put rev_cmp c (with_no_parent (seen_in (rows_tree ns h i) c)) (rows_tree ns h i)) ∙ ap entries (same_map {O = revs} (maps.put M c X) (with_marks m u) at)

    pub orphaned_nodes : IsNodes made
    orphaned_nodes = nodes_marked made u m made_rows (λ q. sym (children_same t h.tree.forest c p two q)) whole range

    pub orphaned_tree : tree_of made ≡ orphaned c (tree_of ns)
    orphaned_tree = tree_marked made u m made_rows
