-- The marks of the nodes that are parents.
use Rattle.std.proofs.Common.{◌≡◌, ℕ, ◌+◌, ◌<◌, zero, suc, List, [], ◌∷◌, ◌++◌, map, length, get_or, take, drop, Option, Some, None, is_some, Bool, true, false, ◌||◌, Less, refl, sym, ap, ◌∙◌, subst, arith}
use Rattle.std.specs.Prelude.{T, All, AllPairs, Contains, set}
use Rattle.std.specs.List.{list_any}
use Rattle.std.specs.FinMap.Entries.{is_sorted}
use Rattle.std.proofs.Math.ListN.{length-map}
use Rattle.std.proofs.lemmas.List.{get_or-map, take_more}
use Rattle.std.proofs.lemmas.List.Elements.{All-head, All-tail, All-weaker, All-contains_itself}
use Rattle.std.proofs.lemmas.Bool.{true≢false}
use Rattle.std.proofs.lemmas.List.Folds.{list_any-append}
use Rattle.model.specs.Map.{entries, get}
use Rattle.model.specs.Revision.{Rev, rev_cmp, revs, same_rev, same_rev-equal}
use Rattle.model.specs.Tree.{Tree, Revision, IsTree, IsInRange, has_child, is_at, knows}
use Rattle.model.proofs.ListLaws.{by_cases, AllPairs-head, AllPairs-tail, source_of}
use Rattle.model.proofs.MapLaws.{same_key-apart}
use Rattle.model.proofs.PathLaws.{same_rev-symm}
use Rattle.revision_tree.specs.Nodes.{IsNodes, IsListOf, IsSorted, entry_of, entries_of, tree_of, marked_in, marked_by, with_mark}
use Rattle.revision_tree.specs.declared.node.Node.{Node}
use Rattle.revision_tree.proofs.Listed.{sorted_list, entries-tree_of, tree_of-list}
use Rattle.revision_tree.proofs.Places.{Before, got}

-- ---- what marks leave

pub entries_of-marked : (f : Node → Node) → ((n : Node) → entry_of (f n) ≡ entry_of n) → (nodes : List Node) → entries_of (map f nodes) ≡ entries_of nodes
entries_of-marked f h [] = refl
entries_of-marked f h (n ∷ ns) = λ i. h n i ∷ entries_of-marked f h ns i

pub entries-marked_by : (es : List (Rev × Revision)) (nodes : List Node) → entries_of (marked_by es nodes) ≡ entries_of nodes
entries-marked_by es nodes = entries_of-marked (marked_in es) (λ n. refl) nodes

-- ---- a mark

unlike : (r : Rev) (n : Node) → same_rev r n.rev ≡ false → with_mark (Some r) n ≡ n
unlike r n e = λ i. record n { inner = e i || n.inner }

pub no_mark : (r : Rev) (nodes : List Node) → All (λ n. same_rev r n.rev ≡ false) nodes → map (with_mark (Some r)) nodes ≡ nodes
no_mark r [] h = refl
no_mark r (n ∷ ns) h = λ i. unlike r n (All-head (λ n. same_rev r n.rev ≡ false) n ns h) i ∷ no_mark r ns (All-tail (λ n. same_rev r n.rev ≡ false) n ns h) i

pub one_mark : (nodes : List Node) (r : Rev) (i : ℕ) (n : Node) → AllPairs Before nodes → i < length nodes → (get_or nodes i n).rev ≡ r
    → set nodes i (record (get_or nodes i n) { inner = true }) ≡ map (with_mark (Some r)) nodes
one_mark [] r i n h lt e = absurd (omega arith)
one_mark (m ∷ ns) r zero n h lt e =
    let same : same_rev r m.rev ≡ true = (same_rev-equal r m.rev).1 (sym e) in
    let above : All (λ k. same_rev r k.rev ≡ false) ns = λ i d lt. same_rev-symm r (get_or ns i d).rev ∙ same_key-apart revs r (get_or ns i d).rev (subst (λ q. rev_cmp q (get_or ns i d).rev ≡ Less) e (AllPairs-head Before m ns h i d lt)) in
    λ i. record m { inner = sym same i || m.inner } ∷ sym (no_mark r ns above) i
one_mark (m ∷ ns) r (suc i) n h lt e =
    let before : rev_cmp m.rev r ≡ Less = subst (λ q. rev_cmp m.rev q ≡ Less) e (AllPairs-head Before m ns h i n (omega arith)) in
    let apart : same_rev r m.rev ≡ false = same_key-apart revs m.rev r before in
    λ j. sym (unlike r m apart) j ∷ one_mark ns r i n (AllPairs-tail Before m ns h) (omega arith) e j

pub unknown_mark : (nodes : List Node) (r : Rev) → IsSorted nodes → knows (tree_of nodes) r ≡ false → map (with_mark (Some r)) nodes ≡ nodes
unknown_mark nodes r h k = no_mark r nodes (All-weaker (Contains nodes) (λ n. same_rev r n.rev ≡ false) at nodes (All-contains_itself nodes))
  where
    at : (n : Node) → Contains nodes n → same_rev r n.rev ≡ false
    at n c = by_cases (same_rev r n.rev)
        (λ e. absurd (true≢false (sym (ap is_some (subst (λ q. get (tree_of nodes) q ≡ Some (entry_of n).1) (sym ((same_rev-equal r n.rev).0 e)) (got nodes h n c))) ∙ k)))
        (λ e. e)

pub no_parent : (nodes : List Node) (o : Option Rev) → o ≡ None → nodes ≡ map (with_mark o) nodes
no_parent [] o e = refl
no_parent (n ∷ ns) o e = λ i. record n { inner = is_at (sym e i) n.rev || n.inner } ∷ no_parent ns o e i

-- ---- no marks

pub one_cleared : (f : Node → Node) (nodes : List Node) (i : ℕ) (n : Node) → i < length nodes
    → set (map f (take i nodes) ++ drop i nodes) i (f (get_or (map f (take i nodes) ++ drop i nodes) i n)) ≡ map f (take (suc i) nodes) ++ drop (suc i) nodes
one_cleared f [] i n lt = absurd (omega arith)
one_cleared f (m ∷ ns) zero n lt = refl
one_cleared f (m ∷ ns) (suc i) n lt = ap (λ ks. f m ∷ ks) (one_cleared f ns i n (omega arith))

-- ---- all marks

pub IsSorted-marked : (es : List (Rev × Revision)) (nodes : List Node) → IsSorted nodes → IsSorted (marked_by es nodes)
IsSorted-marked es nodes h = subst (λ xs. T (is_sorted rev_cmp xs)) (sym (entries-marked_by es nodes)) h

pub marks_more : (es : List (Rev × Revision)) (e : Rev × Revision) (nodes : List Node) → map (with_mark e.1.parent) (marked_by es nodes) ≡ marked_by (es ++ e ∷ []) nodes
marks_more es e [] = refl
marks_more es e (n ∷ ns) = λ i. record n { inner = more i } ∷ marks_more es e ns i
  where
    either : (a b : Bool) → (a || b) ≡ (b || (a || false))
    either true true = refl
    either true false = refl
    either false true = refl
    either false false = refl

    more : (is_at e.1.parent n.rev || list_any (λ e. is_at e.1.parent n.rev) es) ≡ list_any (λ e. is_at e.1.parent n.rev) (es ++ e ∷ [])
    more = either (is_at e.1.parent n.rev) (list_any (λ e. is_at e.1.parent n.rev) es) ∙ sym (list_any-append (λ e. is_at e.1.parent n.rev) es (e ∷ []))

-- the marks of one entry more
pub marks_next : (now : List Node) (i : ℕ) (d : Node) (nodes : List Node) → now ≡ marked_by (take i (entries_of nodes)) nodes → i < length now
    → map (with_mark (get_or now i d).parent) now ≡ marked_by (take (i + 1) (entries_of nodes)) nodes
marks_next now i d nodes is lt =
    let es = entries_of nodes in
    let e = get_or es i (entry_of d) in
    let same : entries_of now ≡ es = ap entries_of is ∙ entries-marked_by (take i es) nodes in
    let short : i < length es = omega (arith, ap length same, length-map now entry_of) in
    let parent : e.1.parent ≡ (get_or now i d).parent = ap (λ xs. (get_or xs i (entry_of d)).1.parent) (sym same) ∙ ap (λ (x : Rev × Revision). x.1.parent) (get_or-map entry_of now i d (entry_of d) lt) in
    ap (λ o. map (with_mark o) now) (sym parent) ∙ ap (map (with_mark e.1.parent)) is ∙ marks_more (take i es) e nodes ∙ ap (λ xs. marked_by xs nodes) (sym (take_more es i (entry_of d) short))

-- ---- the marked nodes make the tree

pub inner-marked : (nodes : List Node) → IsSorted nodes → (n : Node) → Contains (marked_by (entries_of nodes) nodes) n → n.inner ≡ has_child (tree_of (marked_by (entries_of nodes) nodes)) n.rev
unfolding has_child
inner-marked nodes h n c =
    let es = entries_of nodes in
    let marked = marked_by es nodes in
    let listed : entries (tree_of marked) ≡ es = entries-tree_of marked (IsSorted-marked es nodes h) ∙ entries-marked_by es nodes in
    let s = source_of (marked_in es) nodes n c in
    ap (λ (m : Node). m.inner) (sym s.gives) ∙ ap (list_any (λ e. is_at e.1.parent s.element.rev)) (sym listed) ∙ ap (λ (m : Node). list_any (λ e. is_at e.1.parent m.rev) (entries (tree_of marked))) s.gives

pub IsNodes-marked : (nodes : List Node) (t : Tree) → IsListOf nodes t → IsNodes (marked_by (entries_of nodes) nodes)
IsNodes-marked nodes t h = record {
  sorted = sorted_list (marked_by (entries_of nodes) nodes) t listed;
  inner = inner-marked nodes (sorted_list nodes t h.entries);
  tree = subst IsTree (sym is) h.tree;
  range = subst IsInRange (sym is) h.range;
}
  where
    listed : entries t ≡ entries_of (marked_by (entries_of nodes) nodes)
    listed = h.entries ∙ sym (entries-marked_by (entries_of nodes) nodes)

    is : tree_of (marked_by (entries_of nodes) nodes) ≡ t
    is = tree_of-list (marked_by (entries_of nodes) nodes) t listed
