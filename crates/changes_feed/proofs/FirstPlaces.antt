-- The place of the first revision that passes a test, and of the first that a node descends from.
use Rattle.std.specs.Prelude.{◌≡◌, ℕ, suc, ◌+◌, ◌<◌, ◌≤◌, min, Bool, true, false, cond, ◌||◌, List, [], ◌∷◌, ◌++◌, map, length, get_or, take, drop, Contains, Some, None, is_some, refl}
use Rattle.std.proofs.Common.{sym, ap, subst, ◌∙◌, arith, ⊎_elim, get_or-take, length-take}
use Rattle.std.proofs.Math.ListN.{length-map}
use Rattle.std.proofs.lemmas.Bool.{cases_lt}
use Rattle.std.proofs.lemmas.List.{drop_all, take_more, map-append, get_or-map}
use Rattle.model.specs.Revision.{Rev, same_rev}
use Rattle.model.specs.Tree.{Tree, knows, among, parent_of, ancestors, path_of}
use Rattle.model.proofs.TreeLaws.{parent_in}
use Rattle.model.proofs.AncestorLaws.{ancestors-Some}
use Rattle.commands.proofs.Steps.{drop_at}
use Rattle.revision_tree.specs.declared.node.Node.{Node}
use Rattle.revision_tree.specs.Nodes.{IsListOf, IsPlaceOf, tree_of}
use Rattle.revision_tree.proofs.Ends.{no_younger_after}
use Rattle.revision_tree.proofs.Listed.{sorted_list, tree_of-list}
use Rattle.revision_tree.proofs.Pieces.{some_of}
use Rattle.revision_tree.proofs.Places.{got, rising}
use Rattle.changes_feed.specs.Latest.{first_place, first_above}

-- ---- one walk along the list

pub first_place-most : (p : Rev → Bool) (xs : List Rev) → first_place p xs ≤ length xs
first_place-most p [] = omega arith
first_place-most p (x ∷ xs) = at (p x) (first_place-most p xs)
  where
    at : (b : Bool) → first_place p xs ≤ length xs → cond b 0 (suc (first_place p xs)) ≤ suc (length xs)
    at true le = omega arith
    at false le = omega (arith, le)

module _ (p : Rev → Bool) (xs : List Rev) (i : ℕ) where
  -- none has passed so far
  abbrev pub AreSkipped : Type 0
  AreSkipped = first_place p xs ≡ i + first_place p (drop i xs)

  pub first_end : length xs ≤ i → first_place p xs ≡ i + first_place p (drop i xs) → length xs ≡ first_place p xs
  first_end le e =
      let none : first_place p (drop i xs) ≡ 0 = ap (first_place p) (drop_all i xs le) in
      omega (arith, le, e, none, first_place-most p xs)

  module _ (x : Rev) (lt : i < length xs) (is : x ≡ get_or xs i x) where
    step : first_place p (drop i xs) ≡ cond (p x) 0 (suc (first_place p (drop (i + 1) xs)))
    step = ap (first_place p) (drop_at xs i x lt is)

    pub first_skip : p x ≡ false → first_place p xs ≡ i + first_place p (drop i xs) → first_place p xs ≡ (i + 1) + first_place p (drop (i + 1) xs)
    first_skip off e =
        let more : first_place p (drop i xs) ≡ suc (first_place p (drop (i + 1) xs)) = step ∙ ap (λ b. cond b 0 (suc (first_place p (drop (i + 1) xs)))) off in
        omega (arith, e, more)

    pub first_hit : p x ≡ true → first_place p xs ≡ i + first_place p (drop i xs) → i ≡ first_place p xs
    first_hit on e =
        let none : first_place p (drop i xs) ≡ 0 = step ∙ ap (λ b. cond b 0 (suc (first_place p (drop (i + 1) xs)))) on in
        omega (arith, e, none)

-- ---- either of two tests

first_place-or : (p q : Rev → Bool) (xs : List Rev) → first_place (λ a. p a || q a) xs ≡ min (first_place p xs) (first_place q xs)
first_place-or p q [] = omega arith
first_place-or p q (x ∷ xs) = at (p x) (q x) (first_place-or p q xs)
  where
    at : (a b : Bool) → first_place (λ y. p y || q y) xs ≡ min (first_place p xs) (first_place q xs) → cond (a || b) 0 (suc (first_place (λ y. p y || q y) xs)) ≡ min (cond a 0 (suc (first_place p xs))) (cond b 0 (suc (first_place q xs)))
    at true true h = omega arith
    at true false h = omega arith
    at false true h = omega arith
    at false false h = omega (arith, h)

or_none : (b : Bool) → (b || false) ≡ b
or_none true = refl
or_none false = refl

-- ---- the nodes of a tree

pub list_itself : (nodes : List Node) (t : Tree) → IsListOf nodes t → IsListOf nodes (tree_of nodes)
list_itself nodes t h = let same = tree_of-list nodes t h.entries in subst (IsListOf nodes) (sym same) h

module _ (revs : List Rev) (nodes : List Node) (h : IsListOf nodes (tree_of nodes)) where
  -- where a revision itself is named
  abbrev pub own_place : Rev → ℕ
  own_place r = first_place (λ a. same_rev a r) revs

  node_got : (n : Node) → Contains nodes n → (knows (tree_of nodes) n.rev ≡ true) × (parent_of (tree_of nodes) n.rev ≡ n.parent)
  node_got n c = let g = got nodes (sorted_list nodes (tree_of nodes) h.entries) n c in (ap is_some g, ap parent_in g)

  path : (n : Node) → Contains nodes n → path_of (tree_of nodes) n.rev ≡ n.rev ∷ ancestors (tree_of nodes) n.parent
  path n c =
      let k = node_got n c in
      ap (λ b. cond b (ancestors (tree_of nodes) (Some n.rev)) []) k.0 ∙ ancestors-Some (tree_of nodes) h.tree.forest n.rev k.0 ∙ ap (λ o. n.rev ∷ ancestors (tree_of nodes) o) k.1

  pub first_alone : (n : Node) → Contains nodes n → n.parent ≡ None → own_place n.rev ≡ first_above revs (tree_of nodes) n.rev
  first_alone n c e =
      sym (ap (λ qs. first_place (λ a. among qs a) revs) (path n c ∙ ap (λ o. n.rev ∷ ancestors (tree_of nodes) o) e) ∙ (λ i. first_place (λ a. or_none (same_rev a n.rev) i) revs))

  module _ (n : Node) (p : Rev) (e : n.parent ≡ Some p) where
    pub parent_listed : Contains nodes n → (knows (tree_of nodes) p ≡ true) × (n.rev.generation ≡ p.generation + 1)
    parent_listed c = h.tree.forest.parents n.rev p ((node_got n c).1 ∙ e)

    pub first_below : Contains nodes n → min (own_place n.rev) (first_above revs (tree_of nodes) p) ≡ first_above revs (tree_of nodes) n.rev
    first_below c =
        let up = (parent_listed c).0 in
        let whole : path_of (tree_of nodes) n.rev ≡ n.rev ∷ path_of (tree_of nodes) p = path n c ∙ ap (λ o. n.rev ∷ ancestors (tree_of nodes) o) e ∙ ap (λ b. n.rev ∷ cond b (ancestors (tree_of nodes) (Some p)) []) (sym up) in
        sym (ap (λ qs. first_place (λ a. among qs a) revs) whole ∙ first_place-or (λ a. same_rev a n.rev) (λ a. among (path_of (tree_of nodes) p) a) revs)

    pub parent_before : (i j : ℕ) → i < length nodes → n ≡ get_or nodes i n → IsPlaceOf nodes p j → j < i
    parent_before i j lt is at = ⊎_elim (λ l. l) (λ le. absurd (no le)) (cases_lt j i)
      where
        no : i ≤ j → ⊥
        no le =
            let up = (parent_listed (i, lt, sym is)).1 in
            let order = no_younger_after nodes (rising nodes (sorted_list nodes (tree_of nodes) h.entries)) i j n le at.within in
            let here = ap (λ (m : Node). m.rev.generation) is in
            let there = ap (λ (q : Rev). q.generation) (at.rev n) in
            omega (arith, up, order, here, there)

-- ---- what is beside the nodes

module _ (g : Rev → ℕ) (nodes : List Node) where
  pub beside_more : (i m : ℕ) (d : Node) (old new : List ℕ) → i < length nodes → old ≡ map (λ k. g k.rev) (take i nodes) → m ≡ g (get_or nodes i d).rev → new ≡ old ++ m ∷ []
      → new ≡ map (λ k. g k.rev) (take (i + 1) nodes)
  beside_more i m d old new lt before e made =
      made ∙ ap (λ ms. ms ++ m ∷ []) before ∙ ap (λ k. map (λ n. g n.rev) (take i nodes) ++ k ∷ []) e
      ∙ sym (map-append (λ n. g n.rev) (take i nodes) (get_or nodes i d ∷ [])) ∙ ap (map (λ n. g n.rev)) (sym (take_more nodes i d lt))

  pub beside_short : (i : ℕ) (ms : List ℕ) → i ≤ length nodes → ms ≡ map (λ k. g k.rev) (take i nodes) → length ms ≡ i
  beside_short i ms le e = omega (arith, ap length e, length-map (take i nodes) (λ (k : Node). g k.rev), length-take i nodes, le)

  module _ (j d : ℕ) (p : Rev) (at : IsPlaceOf nodes p j) where
    pub beside_before : (i : ℕ) (ms : List ℕ) → j < i → ms ≡ map (λ k. g k.rev) (take i nodes) → get_or ms j d ≡ g p
    beside_before i ms lt e =
        let n = some_of nodes j at.within in
        ap (λ xs. get_or xs j d) e
        ∙ get_or-map (λ k. g k.rev) (take i nodes) j n d (omega (arith, lt, at.within, length-take i nodes)) ∙ ap (λ (m : Node). g m.rev) (get_or-take i nodes j n lt) ∙ ap g (at.rev n)

    pub beside_all : (ms : List ℕ) → ms ≡ map (λ k. g k.rev) nodes → get_or ms j d ≡ g p
    beside_all ms e =
        let n = some_of nodes j at.within in
        ap (λ xs. get_or xs j d) e ∙ get_or-map (λ k. g k.rev) nodes j n d at.within ∙ ap g (at.rev n)
