-- Which lists of nodes are those of a tree.
use Rattle.std.specs.Prelude.{◌≡◌, ◌↔◌, ◌+◌, ◌<◌, Bool, true, false, ◌||◌, T, List, [], ◌∷◌, All, Contains, length, Option, Some, None, IfSome, is_some, option_and_then, option_map, refl}
use Rattle.std.specs.Arc.{arc_value}
use Rattle.std.specs.declared.cmp.Ordering.{Ordering}
use Rattle.std.specs.declared.cmp.Ordering.TheVariants.{Less}
use Rattle.std.specs.Ordering.{is_lt}
use Rattle.std.specs.FinMap.Entries.{below_all}
use Rattle.std.proofs.Common.{sym, ap, subst, ◌∙◌, arith}
use Rattle.std.proofs.lemmas.List.Elements.{All-contains}
use Rattle.model.specs.Truth.{both}
use Rattle.model.specs.Body.{IsBody}
use Rattle.model.specs.Revision.{Rev, IsRev, rev_cmp, rev_total}
use Rattle.model.specs.Tree.{Tree, Revision, IsTree, IsInRange, knows, parent_of, body_of, has_child}
use Rattle.model.proofs.ListLaws.{by_cases, Contains-head}
use Rattle.model.proofs.TreeLaws.{knows_child, knows_bodied, childless_leaf, leaf_childless, leaf_known}
use Rattle.revision_tree.specs.Decided.{IsNode, IsRooted}
use Rattle.revision_tree.specs.Nodes.{IsListOf, IsNodes, IsSorted, entries_of, tree_of}
use Rattle.revision_tree.specs.declared.node.Node.{Node}
use Rattle.revision_tree.proofs.Listed.{IsListOf-nodes, first, second, less}
use Rattle.revision_tree.proofs.Places.{got, node_known}

-- ---- revisions that ascend

is_less : (o : Ordering) → o ≡ Less → T (is_lt o)
is_less o e = subst (λ r. T (is_lt r)) (sym e) tt

below_less : (a b : Rev) (es : List (Rev × Revision)) → rev_cmp a b ≡ Less → T (below_all rev_cmp b es) → T (below_all rev_cmp a es)
below_less a b [] p h = tt
below_less a b (e ∷ es) p h = both _ _ (is_less _ (rev_total.trans a b e.0 p (less _ (first _ _ h)))) (below_less a b es p (second _ _ h))

pub ascends-first : (a b : Node) (ns : List Node) → IsSorted (a ∷ b ∷ ns) → rev_cmp a.rev b.rev ≡ Less
ascends-first a b ns h = less _ (first _ _ (first _ _ h))

pub ascends-rest : (a b : Node) (ns : List Node) → IsSorted (a ∷ b ∷ ns) → IsSorted (b ∷ ns)
ascends-rest a b ns h = second _ _ h

pub ascends-cons : (a b : Node) (ns : List Node) → rev_cmp a.rev b.rev ≡ Less → IsSorted (b ∷ ns) → IsSorted (a ∷ b ∷ ns)
ascends-cons a b ns p h = both _ _ (both _ _ (is_less _ p) (below_less a.rev b.rev (entries_of ns) p (first _ _ h))) h

-- ---- what is said of an option

pub at_some : {X : Type 0} (o : Option X) (P : X → Type 0) (x : X) → IfSome o P → o ≡ Some x → P x
at_some o P x h e = subst (λ p. IfSome p P) e h

pub each_some : {X : Type 0} (o : Option X) (P : X → Type 0) → ((x : X) → o ≡ Some x → P x) → IfSome o P
each_some None P h = tt
each_some (Some x) P h = h x refl

some_mapped : {X Y : Type 0} (f : X → Y) (o : Option X) → is_some (option_map f o) ≡ is_some o
some_mapped f None = refl
some_mapped f (Some x) = refl

-- ---- nodes that ascend

module _ (ns : List Node) (sorted : IsSorted ns) where
  abbrev t : Tree
  t = tree_of ns

  its_parent : (n : Node) → Contains ns n → parent_of t n.rev ≡ n.parent
  its_parent n c = ap (option_and_then (λ (v : Revision). v.parent)) (got ns sorted n c)

  its_body : (n : Node) → Contains ns n → body_of t n.rev ≡ option_map arc_value n.body
  its_body n c = ap (option_and_then (λ (v : Revision). v.body)) (got ns sorted n c)

  its_place : (n : Node) → Contains ns n → knows t n.rev ≡ true
  its_place n c = ap is_some (got ns sorted n c)

  pub range_of : All IsNode ns → IsInRange t
  range_of ranges = record {
    known = λ r k. let m = node_known ns sorted r k in subst IsRev m.rev (All-contains IsNode ns m.node ranges m.listed).rev;
    body = λ r b e.
        let m = node_known ns sorted r (knows_bodied t r b e) in
        at_some (option_map arc_value m.node.body) IsBody b (All-contains IsNode ns m.node ranges m.listed).body (sym (its_body m.node m.listed) ∙ ap (body_of t) m.rev ∙ e);
  }

  module _ (inner : (n : Node) → Contains ns n → n.inner ≡ has_child t n.rev) where
    -- each node of a tree is as it must be
    pub rooted_in_tree : IsTree t → (n : Node) → Contains ns n → IsRooted t n
    rooted_in_tree is n c = record {
      parent = each_some n.parent (λ p. (knows t p ≡ true) × (n.rev.generation ≡ p.generation + 1)) (λ p e. is.forest.parents n.rev p (its_parent n c ∙ e));
      body = by_cases n.inner
          (λ marked. ap (λ b. b || is_some n.body) marked)
          (λ outer.
          ap (λ b. b || is_some n.body) outer ∙ sym (some_mapped arc_value n.body) ∙ ap is_some (sym (its_body n c))
          ∙ is.forest.bodies n.rev (childless_leaf t n.rev (its_place n c) (sym (inner n c) ∙ outer)));
    }

    -- and where each does, they make a tree
    pub tree_of_rooted : (one : Node) → Contains ns one → All IsNode ns → All (IsRooted t) ns → IsTree t
    tree_of_rooted one there ranges rooted = record {
      forest = record {
        parents = λ r p e.
            let m = node_known ns sorted r (knows_child t r p e) in
            let own : m.node.parent ≡ Some p = sym (its_parent m.node m.listed) ∙ ap (parent_of t) m.rev ∙ e in
            let up = at_some m.node.parent (λ q. (knows t q ≡ true) × (m.node.rev.generation ≡ q.generation + 1)) p (All-contains (IsRooted t) ns m.node rooted m.listed).parent own in
            (up.0, ap (λ (q : Rev). q.generation) (sym m.rev) ∙ up.1);
        generations = λ r k. let m = node_known ns sorted r k in subst (λ (q : Rev). 0 < q.generation) m.rev (All-contains IsNode ns m.node ranges m.listed).rev.not_zero;
        bodies = λ r leaf.
            let m = node_known ns sorted r (leaf_known t r leaf) in
            let outer : m.node.inner ≡ false = inner m.node m.listed ∙ ap (has_child t) m.rev ∙ leaf_childless t r leaf in
            ap is_some (ap (body_of t) (sym m.rev) ∙ its_body m.node m.listed) ∙ some_mapped arc_value m.node.body
            ∙ ap (λ b. b || is_some m.node.body) (sym outer) ∙ (All-contains (IsRooted t) ns m.node rooted m.listed).body;
      };
      some_known = (one.rev, its_place one there);
    }

-- the list that was marked, and of which no more than marks were changed
pub list_of_marked : (marked nodes : List Node) → IsNodes marked → entries_of marked ≡ entries_of nodes → IsListOf nodes (tree_of marked)
list_of_marked marked nodes h same = let l = IsListOf-nodes marked h in record { entries = l.entries ∙ same; tree = l.tree; range = l.range }

-- nodes that are all as they must be make a tree exactly where there are any
pub some_rooted : (ns : List Node) (sorted : IsSorted ns) → ((n : Node) → Contains ns n → n.inner ≡ has_child (tree_of ns) n.rev) → All IsNode ns → All (IsRooted (tree_of ns)) ns → (some : Bool) → ((some ≡ true) ↔ (0 < length ns)) → (some ≡ true) ↔ IsTree (tree_of ns)
some_rooted [] sorted inner ranges rooted some tells = (
  λ e. absurd (omega (arith, tells.0 e)),
  λ is. let m = node_known [] sorted is.some_known.0 is.some_known.1 in absurd (omega (arith, m.listed.1)),
)
some_rooted (n ∷ ns) sorted inner ranges rooted some tells = (
  λ e. tree_of_rooted (n ∷ ns) sorted inner n (Contains-head n ns) ranges rooted,
  λ is. tells.1 (omega arith),
)
