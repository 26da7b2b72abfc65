-- The leaves by two walks down the nodes, the live ones first, are the leaves in the winner's order.
use Rattle.std.specs.Prelude.{◌≡◌, ◌↔◌, List, [], ◌∷◌, ◌++◌, map, filter, reverse, All, AllPairs, Contains, Option, Some, None, option_map, is_some, Bool, true, false, not, cond, refl}
use Rattle.std.proofs.Common.{sym, ap, ◌∙◌, subst, ⊎_elim}
use Rattle.std.specs.Bool.{beq}
use Rattle.std.specs.List.{find as find_list}
use Rattle.std.specs.Option.{option_or}
use Rattle.std.specs.declared.cmp.Ordering.TheVariants.{Less}
use Rattle.std.proofs.lemmas.Bool.{and_parts, and_from, not-true}
use Rattle.std.proofs.lemmas.Option.{none-some}
use Rattle.std.proofs.lemmas.List.{map-append, reverse-append}
use Rattle.std.proofs.lemmas.List.Elements.{All-map, All-weaker, filter_passes, filter-append, Contains-append_left, Contains-append_right, Contains-append_cases}
use Rattle.std.proofs.lemmas.List.Kept.{AllPairs-filter}
use Rattle.model.specs.Lists.{first_of}
use Rattle.model.specs.Map.{IsRising}
use Rattle.model.specs.Revision.{Rev, rev_cmp}
use Rattle.model.specs.Tree.{Leaf, IsLeafOf, leaf_cmp, leaves, has_child, is_deleted, ranks, winner, revs_of}
use Rattle.model.proofs.ListLaws.{by_cases, Contains-map, Contains-filter, source_of}
use Rattle.model.proofs.TreeLaws.{flag_in, childless_leaf, leaf_childless, leaf_known}
use Rattle.model.proofs.LeafLaws.{only_leaves}
use Rattle.model.proofs.ReachLaws.{some_winner}
use Rattle.revision_tree.specs.Nodes.{IsNodes, tree_of, leaf_of, is_wanted}
use Rattle.revision_tree.specs.declared.leaf.Leaf.{Leaf as Found}
use Rattle.revision_tree.specs.declared.node.Node.{Node}
use Rattle.revision_tree.proofs.InOrder.{Contains-reverse, reversed-Contains, AllPairs-append, AllPairs-reverse, AllPairs-mapped}
use Rattle.revision_tree.proofs.Places.{Before, rising, got, node_known}

beq-is : (a b : Bool) → beq a b ≡ true → a ≡ b
beq-is true true h = refl
beq-is true false h = sym h
beq-is false true h = h
beq-is false false h = refl

beq_itself : (a : Bool) → beq a a ≡ true
beq_itself true = refl
beq_itself false = refl

leaf_less : (d : Bool) (x y : Leaf) → x.deleted ≡ d → y.deleted ≡ d → rev_cmp y.rev x.rev ≡ Less → leaf_cmp x y ≡ Less
leaf_less true x y p q h = rw (p, q) h
leaf_less false x y p q h = rw (p, q) h

live_first : (x y : Leaf) → x.deleted ≡ false → y.deleted ≡ true → leaf_cmp x y ≡ Less
live_first x y p q = rw (p, q)

abbrev half : Bool → List Node → List Node
half d nodes = filter (is_wanted d) (reverse nodes)

-- the leaves with a flag, the greatest first
abbrev down : Bool → List Node → List Leaf
down d nodes = map leaf_of (half d nodes)

abbrev walk : List Node → List Leaf
walk nodes = down false nodes ++ down true nodes

abbrev Ranked : Leaf → Leaf → Type 0
Ranked a b = leaf_cmp a b ≡ Less

flags : (d : Bool) (nodes : List Node) → All (λ n. n.deleted ≡ d) (half d nodes)
flags d nodes = All-weaker (λ n. is_wanted d n ≡ true) (λ n. n.deleted ≡ d) (λ n w. beq-is n.deleted d (and_parts (not n.inner) (beq n.deleted d) w).1) (half d nodes) (filter_passes (is_wanted d) (reverse nodes))

module _ (nodes : List Node) (h : IsNodes nodes) where
  ordered : (d : Bool) → AllPairs Ranked (down d nodes)
  ordered d = AllPairs-mapped leaf_of (λ x y. Before y x) Ranked (λ n. n.deleted ≡ d) (λ x y p q less. leaf_less d (leaf_of x) (leaf_of y) p q less) (half d nodes) (flags d nodes)
      (AllPairs-filter (λ x y. Before y x) (is_wanted d) (reverse nodes) (AllPairs-reverse Before nodes (rising nodes h.sorted)))

  across : All (λ x. All (Ranked x) (down true nodes)) (down false nodes)
  across = All-map (λ x. All (Ranked x) (down true nodes)) leaf_of (half false nodes)
      (All-weaker (λ n. n.deleted ≡ false) (λ n. All (Ranked (leaf_of n)) (down true nodes))
      (λ n p. All-map (Ranked (leaf_of n)) leaf_of (half true nodes) (All-weaker (λ m. m.deleted ≡ true) (λ m. Ranked (leaf_of n) (leaf_of m)) (λ m q. live_first (leaf_of n) (leaf_of m) p q) (half true nodes) (flags true nodes)))
      (half false nodes) (flags false nodes))

  IsRising-walk : IsRising ranks (walk nodes)
  IsRising-walk = AllPairs-append Ranked (down false nodes) (down true nodes) (ordered false) (ordered true) across

  leaf_listed : (d : Bool) (l : Leaf) → Contains (down d nodes) l → IsLeafOf (tree_of nodes) l
  leaf_listed d l c =
      let s = source_of leaf_of (half d nodes) l c in
      let n = s.element in
      let kept = (Contains-filter (is_wanted d) (reverse nodes) n).0 s.listed in
      let at = Contains-reverse nodes n kept.0 in
      let found = got nodes h.sorted n at in
      let childless : has_child (tree_of nodes) n.rev ≡ false = sym (h.inner n at) ∙ not-true n.inner (and_parts (not n.inner) (beq n.deleted d) kept.1).0 in
      subst (IsLeafOf (tree_of nodes)) s.gives (record { leaf = childless_leaf (tree_of nodes) n.rev (ap is_some found) childless; flag = ap flag_in found })

  listed_leaf : (l : Leaf) → IsLeafOf (tree_of nodes) l → Contains (down l.deleted nodes) l
  listed_leaf l g =
      let s = node_known nodes h.sorted l.rev (leaf_known (tree_of nodes) l.rev g.leaf) in
      let n = s.node in
      let inner : n.inner ≡ false = h.inner n s.listed ∙ ap (has_child (tree_of nodes)) s.rev ∙ leaf_childless (tree_of nodes) l.rev g.leaf in
      let flag : n.deleted ≡ l.deleted = sym (ap flag_in (got nodes h.sorted n s.listed)) ∙ ap (is_deleted (tree_of nodes)) s.rev ∙ g.flag in
      let wanted : is_wanted l.deleted n ≡ true = and_from (not n.inner) (beq n.deleted l.deleted) (ap not inner) (ap (λ d. beq d l.deleted) flag ∙ beq_itself l.deleted) in
      let there = (Contains-filter (is_wanted l.deleted) (reverse nodes) n).1 (reversed-Contains nodes n s.listed, wanted) in
      subst (Contains (down l.deleted nodes)) (λ i. record { deleted = flag i; rev = s.rev i }) (Contains-map leaf_of (half l.deleted nodes) n there)

  members : (l : Leaf) → Contains (walk nodes) l ↔ IsLeafOf (tree_of nodes) l
  members l = (
    λ c. ⊎_elim (leaf_listed false l) (leaf_listed true l) (Contains-append_cases (down false nodes) (down true nodes) l c),
    λ g. by_cases l.deleted
        (λ e. Contains-append_right (down false nodes) (down true nodes) l (subst (λ d. Contains (down d nodes) l) e (listed_leaf l g)))
        (λ e. Contains-append_left (down false nodes) (down true nodes) l (subst (λ d. Contains (down d nodes) l) e (listed_leaf l g))),
  )

  -- the two walks give the leaves
  pub walk_is_leaves : walk nodes ≡ leaves (tree_of nodes)
  walk_is_leaves = only_leaves (tree_of nodes) (walk nodes) IsRising-walk members

  revs_down : (d : Bool) → map (λ n. n.rev) (half d nodes) ≡ revs_of (down d nodes)
  revs_down d = twice (half d nodes)
    where
      twice : (ns : List Node) → map (λ n. n.rev) ns ≡ revs_of (map leaf_of ns)
      twice [] = refl
      twice (n ∷ ns) = ap (λ rs. n.rev ∷ rs) (twice ns)

  pub revs_of_leaves : map (λ n. n.rev) (half false nodes) ++ map (λ n. n.rev) (half true nodes) ≡ revs_of (leaves (tree_of nodes))
  revs_of_leaves = (λ i. revs_down false i ++ revs_down true i) ∙ sym (map-append (λ l. l.rev) (down false nodes) (down true nodes)) ∙ ap revs_of walk_is_leaves

-- ---- the first of them

abbrev pub found_of : Node → Found
found_of n = record { deleted = n.deleted; rev = n.rev }

abbrev pub as_model : Found → Leaf
as_model l = record { deleted = l.deleted; rev = l.rev }

first_kept : (p : Node → Bool) (ns : List Node) → first_of (map leaf_of (filter p ns)) ≡ option_map as_model (option_map found_of (find_list p ns))
first_kept p [] = refl
first_kept p (n ∷ ns) = at (p n) (first_kept p ns)
  where
    at : (b : Bool) → first_of (map leaf_of (filter p ns)) ≡ option_map as_model (option_map found_of (find_list p ns))
        → first_of (map leaf_of (cond b (n ∷ filter p ns) (filter p ns))) ≡ option_map as_model (option_map found_of (cond b (Some n) (find_list p ns)))
    at true h = refl
    at false h = h

first_of_two : (xs ys : List Leaf) → first_of (xs ++ ys) ≡ option_or (first_of xs) (first_of ys)
first_of_two [] ys = refl
first_of_two (x ∷ xs) ys = refl

same_or : (a b : Option Found) → option_or (option_map as_model a) (option_map as_model b) ≡ option_map as_model (option_or a b)
same_or None b = refl
same_or (Some a) b = refl

abbrev pub greatest_of : Bool → List Node → Option Found
greatest_of d nodes = option_map found_of (find_list (is_wanted d) (reverse nodes))

find-append : (p : Node → Bool) (xs ys : List Node) → find_list p (xs ++ ys) ≡ option_or (find_list p xs) (find_list p ys)
find-append p [] ys = refl
find-append p (x ∷ xs) ys = at (p x) (find-append p xs ys)
  where
    at : (b : Bool) → find_list p (xs ++ ys) ≡ option_or (find_list p xs) (find_list p ys) → cond b (Some x) (find_list p (xs ++ ys)) ≡ option_or (cond b (Some x) (find_list p xs)) (find_list p ys)
    at true h = refl
    at false h = h

map_or : (a b : Option Node) → option_map found_of (option_or a b) ≡ option_or (option_map found_of a) (option_map found_of b)
map_or None b = refl
map_or (Some x) b = refl

-- the later nodes first
pub greatest_of-append : (d : Bool) (xs ys : List Node) → greatest_of d (xs ++ ys) ≡ option_or (greatest_of d ys) (greatest_of d xs)
greatest_of-append d xs ys =
    ap (λ ns. option_map found_of (find_list (is_wanted d) ns)) (reverse-append xs ys) ∙ ap (option_map found_of) (find-append (is_wanted d) (reverse ys) (reverse xs))
    ∙ map_or (find_list (is_wanted d) (reverse ys)) (find_list (is_wanted d) (reverse xs))

abbrev pub revs_half : Bool → List Node → List Rev
revs_half d ns = map (λ n. n.rev) (filter (is_wanted d) (reverse ns))

pub revs_half-append : (d : Bool) (xs ys : List Node) → revs_half d (xs ++ ys) ≡ revs_half d ys ++ revs_half d xs
revs_half-append d xs ys =
    ap (λ ns. map (λ (n : Node). n.rev) (filter (is_wanted d) ns)) (reverse-append xs ys) ∙ ap (map (λ (n : Node). n.rev)) (filter-append (is_wanted d) (reverse ys) (reverse xs))
    ∙ map-append (λ (n : Node). n.rev) (filter (is_wanted d) (reverse ys)) (filter (is_wanted d) (reverse xs))

-- the winner is the greatest live leaf, or else the greatest leaf
module _ (nodes : List Node) (h : IsNodes nodes) (live : Option Found) (p : live ≡ greatest_of false nodes) where
  winner_or : winner (tree_of nodes) ≡ option_map as_model (option_or live (greatest_of true nodes))
  winner_or =
      ap first_of (sym (walk_is_leaves nodes h)) ∙ first_of_two (down false nodes) (down true nodes)
      ∙ (λ i. option_or (first_kept (is_wanted false) (reverse nodes) i) (first_kept (is_wanted true) (reverse nodes) i))
      ∙ (λ i. option_or (option_map as_model (sym p i)) (option_map as_model (greatest_of true nodes))) ∙ same_or live (greatest_of true nodes)

  pub live_winner : (l : Found) → live ≡ Some l → winner (tree_of nodes) ≡ Some (as_model l)
  live_winner l e = winner_or ∙ ap (λ o. option_map as_model (option_or o (greatest_of true nodes))) e

  module _ (none : live ≡ None) (dead : Option Found) (q : dead ≡ greatest_of true nodes) where
    dead_winner : winner (tree_of nodes) ≡ option_map as_model dead
    dead_winner = winner_or ∙ ap (λ o. option_map as_model (option_or o (greatest_of true nodes))) none ∙ ap (option_map as_model) (sym q)

    pub deleted_winner : (l : Found) → dead ≡ Some l → winner (tree_of nodes) ≡ Some (as_model l)
    deleted_winner l e = dead_winner ∙ ap (option_map as_model) e

    pub some_greatest : dead ≡ None → ⊥
    some_greatest e = let w = some_winner (tree_of nodes) h.tree in none-some w.0 (sym (sym (w.1) ∙ dead_winner ∙ ap (option_map as_model) e))
