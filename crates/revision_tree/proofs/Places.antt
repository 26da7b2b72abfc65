-- The place of a revision among the nodes, which ascend.
use Rattle.std.proofs.Common.{◌≡◌, ℕ, ◌+◌, ◌<◌, ◌≤◌, zero, suc, List, [], ◌∷◌, map, length, get_or, Option, Some, None, is_some, true, Result, Ok, Err, Less, Equal, Greater, Ordering, refl, sym, ap, ◌∙◌, subst, ⊎_elim, arith}
use Rattle.std.proofs.lemmas.Bool.{cases_lt}
use Rattle.std.specs.Prelude.{IfSome, Contains, AllPairs, slice_index_or}
use Rattle.std.specs.Result.{result_ok}
use Rattle.std.proofs.Math.ListN.{length-map}
use Rattle.std.proofs.lemmas.List.{get_or-map}
use Rattle.std.specs.Cmp.{tied_itself}
use Rattle.std.specs.Ordering.{ordering_index}
use Rattle.std.specs.List.Sorted.{IsSearchInRange, IsBinarySearchResult, IsNonDecreasingBy}
use Rattle.model.specs.Map.{Map, entries, get}
use Rattle.model.specs.Revision.{Rev, rev_cmp, rev_total, rev_exact, revs}
use Rattle.model.specs.Tree.{Tree, Revision, IsTree, knows, parent_of}
use Rattle.model.proofs.ListLaws.{by_cases, Contains-map, source_of}
use Rattle.model.proofs.MapLaws.{Contains-entries, Contains-keys, IsRising-keys}
use Rattle.model.proofs.RisingLaws.{AllPairs-map}
use Rattle.revision_tree.specs.Nodes.{IsSorted, IsPlaceOf, entry_of, entries_of, tree_of}
use Rattle.revision_tree.specs.declared.node.Node.{Node}
use Rattle.revision_tree.proofs.Listed.{entries-tree_of}

abbrev pub Before : Node → Node → Type 0
Before a b = rev_cmp a.rev b.rev ≡ Less

pub rising : (nodes : List Node) → IsSorted nodes → AllPairs Before nodes
rising nodes h =
    let m : Map revs Revision = record { list = entries_of nodes; sorted = h } in
    let R : Rev → Rev → Type 0 = λ a b. rev_cmp a b ≡ Less in
    let S : Rev × Revision → Rev × Revision → Type 0 = λ a b. rev_cmp a.0 b.0 ≡ Less in
    AllPairs-map S entry_of nodes (AllPairs-map R (λ (e : Rev × Revision). e.0) (entries_of nodes) (IsRising-keys revs m))

module _ (nodes : List Node) (h : IsSorted nodes) where
  -- each node is found by its revision
  pub got : (n : Node) → Contains nodes n → get (tree_of nodes) n.rev ≡ Some (entry_of n).1
  got n c = (Contains-entries revs (tree_of nodes) n.rev (entry_of n).1).0 (subst (λ es. Contains es (entry_of n)) (sym (entries-tree_of nodes h)) (Contains-map entry_of nodes n c))

  pub record NodeOf (r : Rev) : Type 0 where
    pub node : Node
    pub listed : Contains nodes node
    pub rev : node.rev ≡ r

  -- and each known revision has one
  pub node_known : (r : Rev) → knows (tree_of nodes) r ≡ true → NodeOf r
  node_known r k =
      let c = (Contains-keys revs (tree_of nodes) r).1 k in
      let a = source_of (λ (e : Rev × Revision). e.0) (entries_of nodes) r (subst (λ es. Contains (map (λ (e : Rev × Revision). e.0) es) r) (entries-tree_of nodes h) c) in
      let b = source_of entry_of nodes a.element a.listed in
      record { node = b.element; listed = b.listed; rev = ap (λ (e : Rev × Revision). e.0) b.gives ∙ a.gives }

-- ---- a binary search

lower : (a b r : Rev) → rev_cmp a b ≡ Less → ordering_index (rev_cmp a r) ≤ ordering_index (rev_cmp b r)
lower a b r less = at (rev_cmp b r) refl
  where
    most : (o : Ordering) → ordering_index o ≤ 2
    most Less = omega arith
    most Equal = omega arith
    most Greater = omega arith

    at : (o : Ordering) → rev_cmp b r ≡ o → ordering_index (rev_cmp a r) ≤ ordering_index o
    at Less e = omega (arith, ap ordering_index (rev_total.trans a b r less e))
    at Equal e = omega (arith, ap ordering_index (subst (λ q. rev_cmp a q ≡ Less) (rev_exact b r e) less))
    at Greater e = most (rev_cmp a r)

pub nondecreasing : (nodes : List Node) (r : Rev) → IsSorted nodes → IsNonDecreasingBy (λ n. ordering_index (rev_cmp n.rev r)) nodes
nondecreasing nodes r h i j d le lt = by_place (rising nodes h i j d)
  where
    index : ℕ → ℕ
    index k = ordering_index (rev_cmp (slice_index_or nodes k d).rev r)

    by_place : (i < j → j < length nodes → Before (get_or nodes i d) (get_or nodes j d)) → index i ≤ index j
    by_place less = grind (arith, λ (k : i < j). lower (get_or nodes i d).rev (get_or nodes j d).rev r (less k lt), λ (e : i ≡ j). ap index e)

some_node : (nodes : List Node) (i : ℕ) → i < length nodes → Node
some_node [] i lt = absurd (omega arith)
some_node (n ∷ ns) i lt = n

pub same_at : (nodes : List Node) (i : ℕ) (m n : Node) → i < length nodes → get_or nodes i m ≡ get_or nodes i n
same_at [] i m n lt = absurd (omega arith)
same_at (k ∷ ks) zero m n lt = refl
same_at (k ∷ ks) (suc i) m n lt = same_at ks i m n (omega arith)

pub place_of-node : (nodes : List Node) (r : Rev) (i : ℕ) (m : Node) → i < length nodes → m ≡ get_or nodes i m → m.rev ≡ r → IsPlaceOf nodes r i
place_of-node nodes r i m lt is e = record { within = lt; rev = λ n. ap (λ (k : Node). k.rev) (same_at nodes i n m lt ∙ sym is) ∙ e }

pub place_knows : (nodes : List Node) (r : Rev) (i : ℕ) → IsSorted nodes → IsPlaceOf nodes r i → knows (tree_of nodes) r ≡ true
place_knows nodes r i h at =
    let n = some_node nodes i at.within in
    let m = get_or nodes i n in
    ap is_some (subst (λ q. get (tree_of nodes) q ≡ Some (entry_of m).1) (at.rev n) (got nodes h m (i, at.within, same_at nodes i m n at.within)))

pub placed : (nodes : List Node) (r : Rev) (i : ℕ) (n : Node) → IsPlaceOf nodes r i → n ≡ get_or nodes i n → Contains nodes n × (n.rev ≡ r)
placed nodes r i n at is = ((i, at.within, sym is), ap (λ (m : Node). m.rev) is ∙ at.rev n)

module _ (nodes : List Node) (r : Rev) (h : IsSorted nodes) where
  pub search_knows : (o : Result ℕ ℕ) → IsSearchInRange o (length nodes) → IsBinarySearchResult (λ n. rev_cmp n.rev r) nodes o → is_some (result_ok o) ≡ knows (tree_of nodes) r
  search_knows (Ok i) lt equal =
      let n = some_node nodes i lt in
      let m = get_or nodes i n in
      let c : Contains nodes m = (i, lt, same_at nodes i m n lt) in
      sym (ap is_some (subst (λ q. get (tree_of nodes) q ≡ Some (entry_of m).1) (rev_exact m.rev r (equal n)) (got nodes h m c)))
  search_knows (Err i) le parted = by_cases (knows (tree_of nodes) r)
      (λ k. let n = node_known nodes h r k in absurd (clash n.node n.listed n.rev))
      sym
    where
      clash : (n : Node) → Contains nodes n → n.rev ≡ r → ⊥
      clash n c e = ⊎_elim
          (λ less. let before = (parted (nondecreasing nodes r h)).0 c.0 n (omega arith) less in cc (here, before))
          (λ le. let after = (parted (nondecreasing nodes r h)).1 c.0 n le c.1 in cc (here, after))
          (cases_lt c.0 i)
        where
          here : rev_cmp (slice_index_or nodes c.0 n).rev r ≡ Equal
          here = ap (λ q. rev_cmp q r) (ap (λ (m : Node). m.rev) c.2 ∙ e) ∙ tied_itself rev_total r

  pub search_place : (o : Result ℕ ℕ) → IsSearchInRange o (length nodes) → IsBinarySearchResult (λ n. rev_cmp n.rev r) nodes o → IfSome (result_ok o) (λ i. IsPlaceOf nodes r i)
  search_place (Ok i) lt equal = record { within = lt; rev = λ n. rev_exact (slice_index_or nodes i n).rev r (equal n) }
  search_place (Err i) le parted = tt

-- ---- one step up

abbrev pub above : Option Rev → ℕ
above None = 0
above (Some r) = r.generation + 1

pub climbs : (t : Tree) (r : Rev) (o : Option Rev) → IsTree t → knows t r ≡ true → parent_of t r ≡ o → above o < r.generation + 1
climbs t r None h k e = omega arith
climbs t r (Some p) h k e = omega (arith, (h.forest.parents r p e).1)

pub knows_parent : (t : Tree) (r : Rev) (o : Option Rev) → IsTree t → parent_of t r ≡ o → IfSome o (λ p. knows t p ≡ true)
knows_parent t r None h e = tt
knows_parent t r (Some p) h e = (h.forest.parents r p e).0

-- ---- the place of an entry

pub entry_places : (nodes : List Node) (r : Rev) (o : Option ℕ) → IsSorted nodes → IfSome o (λ i. IsPlaceOf nodes r i)
    → IfSome o (λ i. (i < length (entries (tree_of nodes))) × ((e : Rev × Revision) → (get_or (entries (tree_of nodes)) i e).0 ≡ r))
entry_places nodes r None h at = tt
entry_places nodes r (Some i) h at =
    let n = some_node nodes i at.within in
    let es = entries_of nodes in
    let short : i < length es = omega (arith, at.within, length-map nodes entry_of) in
    let place : (e : Rev × Revision) → (get_or es i e).0 ≡ r = λ e. ap (λ (x : Rev × Revision). x.0) (get_or-map entry_of nodes i n e at.within) ∙ at.rev n in
    subst (λ xs. (i < length xs) × ((e : Rev × Revision) → (get_or xs i e).0 ≡ r)) (sym (entries-tree_of nodes h)) (short, place)
