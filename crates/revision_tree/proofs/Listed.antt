-- The entries of the tree of a sorted list of nodes are those of the nodes.
use Rattle.std.proofs.Common.{◌≡◌, List, [], ◌∷◌, Bool, true, false, ◌&&◌, Less, Equal, Greater, Ordering, refl, sym, ap, ◌∙◌, subst}
use Rattle.std.specs.Prelude.{T}
use Rattle.std.specs.Ordering.{is_lt}
use Rattle.std.specs.FinMap.Entries as es
use Rattle.std.specs.FinMap.Entries.{by_order, is_sorted, below_all}
use Rattle.model.specs.Map.{entries, from_list, same_list}
use Rattle.model.specs.Revision.{Rev, rev_cmp, revs}
use Rattle.model.specs.Tree.{Tree, Revision}
use Rattle.revision_tree.specs.Nodes.{IsNodes, IsListOf, IsSorted, entries_of, tree_of}
use Rattle.revision_tree.specs.declared.node.Node.{Node}

pub first : (a b : Bool) → T (a && b) → T a
first true b p = tt
first false b p = p

pub second : (a b : Bool) → T (a && b) → T b
second true b p = p
second false b p = absurd p

pub less : (o : Ordering) → T (is_lt o) → o ≡ Less
less Less p = refl
less Equal p = absurd p
less Greater p = absurd p

put_first : (e : Rev × Revision) (xs : List (Rev × Revision)) → T (below_all rev_cmp e.0 xs) → es.put rev_cmp e.0 e.1 xs ≡ e ∷ xs
put_first e [] h = refl
put_first e (x ∷ xs) h = ap (λ o. by_order o ((e.0, e.1) ∷ x ∷ xs) ((x.0, e.1) ∷ xs) (x ∷ es.put rev_cmp e.0 e.1 xs)) (less _ (first _ _ h))

pub entries-from_list : (xs : List (Rev × Revision)) → T (is_sorted rev_cmp xs) → entries {O = revs} (from_list xs) ≡ xs
entries-from_list [] h = refl
entries-from_list (x ∷ xs) h = ap (es.put rev_cmp x.0 x.1) (entries-from_list xs (second _ _ h)) ∙ put_first x xs (first _ _ h)

pub entries-tree_of : (nodes : List Node) → IsSorted nodes → entries (tree_of nodes) ≡ entries_of nodes
entries-tree_of nodes h = entries-from_list (entries_of nodes) h

pub sorted_list : (nodes : List Node) (t : Tree) → entries t ≡ entries_of nodes → IsSorted nodes
sorted_list nodes t e = subst (λ xs. T (is_sorted rev_cmp xs)) e t.sorted

pub tree_of-list : (nodes : List Node) (t : Tree) → entries t ≡ entries_of nodes → tree_of nodes ≡ t
tree_of-list nodes t e = same_list (tree_of nodes) t (entries-tree_of nodes (sorted_list nodes t e) ∙ sym e)

pub IsListOf-nodes : (nodes : List Node) → IsNodes nodes → IsListOf nodes (tree_of nodes)
IsListOf-nodes nodes h = record { entries = entries-tree_of nodes h.sorted; tree = h.tree; range = h.range }
