-- The list of the marks of a tree's revisions.
use Rattle.std.specs.Prelude.{◌≡◌, ℕ, zero, suc, ◌+◌, ◌-◌, ◌<◌, ◌≤◌, max, Bool, true, false, cond, not, ◌&&◌, List, [], ◌∷◌, ◌++◌, map, length, get_or, take, drop, set, All, AllPairs, Contains, Option, Some, None, is_some, refl}
use Rattle.std.proofs.Common.{sym, ap, subst, ◌∙◌, arith, sub-one, drop-cons}
use Rattle.std.specs.declared.cmp.Ordering.TheVariants.{Less}
use Rattle.std.proofs.Math.ListN.{length-map}
use Rattle.std.proofs.lemmas.Bool.{true≢false, cond-true, cond-false}
use Rattle.std.proofs.lemmas.List.{get_or-map, take_all, take_more, map-append}
use Rattle.std.proofs.lemmas.List.Elements.{All-head, All-tail, All-weaker, All-contains_itself}
use Rattle.model.specs.Map.{entries, get, refine_list}
use Rattle.model.specs.Revision.{Rev, rev_cmp, revs, same_rev, same_rev-equal}
use Rattle.model.specs.Tree.{Tree, Revision, knows, is_at, is_leaf, among}
use Rattle.model.specs.TreeChange.{restrict}
use Rattle.model.proofs.ListLaws.{by_cases, AllPairs-head, AllPairs-tail}
use Rattle.model.proofs.MapLaws.{Contains-entries, same_key-apart}
use Rattle.model.proofs.PathLaws.{same_rev-symm}
use Rattle.revision_tree.specs.declared.node.Node.{Node}
use Rattle.revision_tree.specs.Nodes.{IsListOf, IsPlaceOf, IsSorted, entry_of, entries_of, tree_of}
use Rattle.revision_tree.proofs.Listed.{sorted_list, tree_of-list}
use Rattle.revision_tree.proofs.Places.{got}
use Rattle.revision_tree.proofs.Pieces.{some_of}
use Rattle.tree_merge.proofs.Reached.{rising_entries}
use Rattle.tree_merge.specs.Reach.{first_mark, raised, reach, kept_of}

abbrev Entry : Type 0
Entry = Rev × Revision

abbrev Above : Entry → Entry → Type 0
Above a b = rev_cmp a.0 b.0 ≡ Less

abbrev pub marks_by : (Rev → ℕ) → List Entry → List ℕ
marks_by g es = map (λ e. g e.0) es

pub marks_of_nodes : (g : Rev → ℕ) (nodes : List Node) → map (λ n. g n.rev) nodes ≡ marks_by g (entries_of nodes)
marks_of_nodes g [] = refl
marks_of_nodes g (n ∷ ns) = ap (λ ms. g n.rev ∷ ms) (marks_of_nodes g ns)

pub mark_at : (g : Rev → ℕ) (es : List Entry) (i d : ℕ) (r : Rev) → i < length es → ((e : Entry) → (get_or es i e).0 ≡ r) → get_or (marks_by g es) i d ≡ g r
mark_at g [] i d r lt at = absurd (omega arith)
mark_at g (e ∷ es) zero d r lt at = ap g (at e)
mark_at g (e ∷ es) (suc i) d r lt at = mark_at g es i d r (omega arith) at

-- ---- a raised mark

module _ (g : Rev → ℕ) (mark : ℕ) where
  pub raise_none : (es : List Entry) (o : Option Rev) → All (λ e. is_at o e.0 ≡ false) es → marks_by g es ≡ marks_by (raised o mark g) es
  raise_none [] o h = refl
  raise_none (e ∷ es) o h = λ i. sym (cond-false (is_at o e.0) (max (g e.0) mark) (g e.0) (All-head (λ e. is_at o e.0 ≡ false) e es h)) i ∷ raise_none es o (All-tail (λ e. is_at o e.0 ≡ false) e es h) i

  pub raise_at : (es : List Entry) (i d : ℕ) (p : Rev) → AllPairs Above es → i < length es → ((e : Entry) → (get_or es i e).0 ≡ p)
      → set (marks_by g es) i (max (get_or (marks_by g es) i d) mark) ≡ marks_by (raised (Some p) mark g) es
  raise_at [] i d p h lt at = absurd (omega arith)
  raise_at (e ∷ es) zero d p h lt at =
      let yes : same_rev p e.0 ≡ true = (same_rev-equal p e.0).1 (sym (at e)) in
      let others : All (λ x. same_rev p x.0 ≡ false) es = λ i x lt. same_rev-symm p (get_or es i x).0 ∙ same_key-apart revs p (get_or es i x).0 (subst (λ q. rev_cmp q (get_or es i x).0 ≡ Less) (at e) (AllPairs-head Above e es h i x lt)) in
      λ j. sym (cond-true (same_rev p e.0) (max (g e.0) mark) (g e.0) yes) j ∷ raise_none es (Some p) others j
  raise_at (e ∷ es) (suc i) d p h lt at =
      let before : rev_cmp e.0 p ≡ Less = subst (λ q. rev_cmp e.0 q ≡ Less) (at e) (AllPairs-head Above e es h i e (omega arith)) in
      λ j. sym (cond-false (same_rev p e.0) (max (g e.0) mark) (g e.0) (same_key-apart revs e.0 p before)) j ∷ raise_at es i d p (AllPairs-tail Above e es h) (omega arith) at j

  pub raise_unknown : (t : Tree) (p : Rev) → knows t p ≡ false → marks_by g (entries t) ≡ marks_by (raised (Some p) mark g) (entries t)
  raise_unknown t p unknown = raise_none (entries t) (Some p) (All-weaker (Contains (entries t)) (λ e. same_rev p e.0 ≡ false) at (entries t) (All-contains_itself (entries t)))
    where
      at : (e : Entry) → Contains (entries t) e → same_rev p e.0 ≡ false
      at e c = by_cases (same_rev p e.0)
          (λ y. absurd (true≢false (sym (ap is_some (ap (get t) ((same_rev-equal p e.0).0 y) ∙ (Contains-entries revs t e.0 e.1).0 c)) ∙ unknown)))
          (λ n. n)

  pub raise_no_parent : (es : List Entry) (o : Option Rev) → o ≡ None → marks_by g es ≡ marks_by (raised o mark g) es
  raise_no_parent [] o e = refl
  raise_no_parent (x ∷ es) o e = λ i. cond (is_at (sym e i) x.0) (max (g x.0) mark) (g x.0) ∷ raise_no_parent es o e i

-- ---- the marks carried one entry further

pub reach_next : (g : Rev → ℕ) (es : List Entry) (i : ℕ) (d : Entry) → 0 < i → i ≤ length es
    → marks_by (raised (get_or es (i - 1) d).1.parent (reach g (drop i es) (get_or es (i - 1) d).0 - 1) (reach g (drop i es))) es ≡ marks_by (reach g (drop (i - 1) es)) es
reach_next g es zero d some le = absurd (omega arith)
reach_next g es (suc k) d some le =
    rw sub-one (ap (λ xs. marks_by (reach g xs) es) (sym (drop-cons es k d (omega arith))))

-- ---- the entries that are kept

pub refine-append : (f : Rev → Revision → Option Revision) (xs ys : List Entry) → refine_list revs f (xs ++ ys) ≡ refine_list revs f xs ++ refine_list revs f ys
refine-append f [] ys = refl
refine-append f (x ∷ xs) ys = at (f x.0 x.1) (refine-append f xs ys)
  where
    at : (o : Option Revision) → refine_list revs f (xs ++ ys) ≡ refine_list revs f xs ++ refine_list revs f ys
        → elim o [ None ↦ refine_list revs f (xs ++ ys) | Some y ↦ (x.0, y) ∷ refine_list revs f (xs ++ ys) ]
        ≡ elim o [ None ↦ refine_list revs f xs | Some y ↦ (x.0, y) ∷ refine_list revs f xs ] ++ refine_list revs f ys
    at None h = h
    at (Some y) h = ap (λ es. (x.0, y) ∷ es) h

pub restrict_entries : (keep : Rev → Bool) (t : Tree) → entries (restrict keep t) ≡ refine_list revs (kept_of keep) (entries t)
unfolding restrict
restrict_entries keep t = refl

-- ---- the first marks

pub told_mark : (limit : ℕ) (named : List Rev) (t : Tree) (r : Rev) (b : Bool) → b ≡ among named r → cond (is_leaf t r && not b) limit 0 ≡ first_mark limit named t r
told_mark limit named t r b e = ap (λ c. cond (is_leaf t r && not c) limit 0) e

pub marked_more : (g : Rev → ℕ) (nodes : List Node) (i m : ℕ) (n : Node) (old new : List ℕ) → i < length nodes → n ≡ get_or nodes i n
    → old ≡ map (λ k. g k.rev) (take i nodes) → m ≡ g n.rev → new ≡ old ++ m ∷ [] → new ≡ map (λ k. g k.rev) (take (i + 1) nodes)
marked_more g nodes i m n old new lt is before e made =
    made ∙ ap (λ ms. ms ++ m ∷ []) before ∙ ap (λ k. map (λ k. g k.rev) (take i nodes) ++ k ∷ []) e
    ∙ ap (λ (k : Node). map (λ k. g k.rev) (take i nodes) ++ g k.rev ∷ []) is ∙ sym (map-append (λ k. g k.rev) (take i nodes) (get_or nodes i n ∷ [])) ∙ ap (map (λ k. g k.rev)) (sym (take_more nodes i n lt))

-- ---- the nodes of a tree

pub list_long : (nodes : List Node) (t : Tree) → IsListOf nodes t → length (entries t) ≡ length nodes
list_long nodes t h = ap length h.entries ∙ length-map nodes entry_of

pub list_itself : (nodes : List Node) (t : Tree) → IsListOf nodes t → IsListOf nodes (tree_of nodes)
list_itself nodes t h = subst (IsListOf nodes) (sym (tree_of-list nodes t h.entries)) h

pub listed_got : (nodes : List Node) (t : Tree) (i : ℕ) (n : Node) → IsListOf nodes t → i < length nodes → n ≡ get_or nodes i n → get t n.rev ≡ Some (entry_of n).1
listed_got nodes t i n h lt is = subst (λ s. get s n.rev ≡ Some (entry_of n).1) (tree_of-list nodes t h.entries) (got nodes (sorted_list nodes t h.entries) n (i, lt, sym is))

pub sorted_in_list : (nodes : List Node) (t : Tree) → IsListOf nodes t → IsSorted nodes
sorted_in_list nodes t h = sorted_list nodes t h.entries

-- the place of a node is that of its entry
pub place_entry : (nodes : List Node) (i : ℕ) (p : Rev) → IsPlaceOf nodes p i → (i < length (entries_of nodes)) × ((e : Entry) → (get_or (entries_of nodes) i e).0 ≡ p)
place_entry nodes i p at =
    let n = some_of nodes i at.within in
    (omega (arith, at.within, length-map nodes entry_of), λ e. ap (λ (x : Entry). x.0) (get_or-map entry_of nodes i n e at.within) ∙ at.rev n)

pub rising_nodes : (nodes : List Node) (t : Tree) → IsListOf nodes t → AllPairs Above (entries_of nodes)
rising_nodes nodes t h = subst (AllPairs Above) h.entries (rising_entries t)

pub raise_unknown_node : (g : Rev → ℕ) (mark : ℕ) (nodes : List Node) (p : Rev) → IsListOf nodes (tree_of nodes) → knows (tree_of nodes) p ≡ false → marks_by g (entries_of nodes) ≡ marks_by (raised (Some p) mark g) (entries_of nodes)
raise_unknown_node g mark nodes p h k = subst (λ es. marks_by g es ≡ marks_by (raised (Some p) mark g) es) h.entries (raise_unknown g mark (tree_of nodes) p k)

pub carry_step : (g : Rev → ℕ) (nodes : List Node) (i : ℕ) (n : Node) (marks new : List ℕ) (mark : ℕ) → 0 < i → i ≤ length nodes
    → marks ≡ marks_by (reach g (drop i (entries_of nodes))) (entries_of nodes) → mark ≡ get_or marks (i - 1) 0 - 1
    → new ≡ marks_by (raised (get_or nodes (i - 1) n).parent mark (reach g (drop i (entries_of nodes)))) (entries_of nodes) → new ≡ marks_by (reach g (drop (i - 1) (entries_of nodes))) (entries_of nodes)
carry_step g nodes i n marks new mark some le is at e =
    let es = entries_of nodes in
    let d = entry_of n in
    let f = reach g (drop i es) in
    let long = length-map nodes entry_of in
    let here = get_or-map entry_of nodes (i - 1) n d (omega arith) in
    let parent : (get_or nodes (i - 1) n).parent ≡ (get_or es (i - 1) d).1.parent = ap (λ (x : Entry). x.1.parent) (sym here) in
    let own : mark ≡ f (get_or es (i - 1) d).0 - 1 = at ∙ ap (λ ms. get_or ms (i - 1) 0 - 1) is ∙ ap (λ m. m - 1) (get_or-map (λ (x : Entry). f x.0) es (i - 1) d 0 (omega arith)) in
    e ∙ (λ j. marks_by (raised (parent j) (own j) f) es) ∙ reach_next g es i d some (omega arith)

pub carried : (g : Rev → ℕ) (es : List Entry) (i : ℕ) (marks : List ℕ) → i ≤ 0 → marks ≡ marks_by (reach g (drop i es)) es → marks ≡ marks_by (reach g es) es
carried g es i marks le e = let none : i ≡ 0 = omega arith in e ∙ ap (λ k. marks_by (reach g (drop k es)) es) none

pub kept_more : (f : Rev → Revision → Option Revision) (nodes : List Node) (i : ℕ) (n : Node) (old new : List Entry) → i < length nodes → n ≡ get_or nodes i n
    → old ≡ refine_list revs f (entries_of (take i nodes)) → new ≡ old ++ refine_list revs f (entry_of n ∷ []) → new ≡ refine_list revs f (entries_of (take (i + 1) nodes))
kept_more f nodes i n old new lt is before e =
    e ∙ ap (λ xs. xs ++ refine_list revs f (entry_of n ∷ [])) before ∙ sym (refine-append f (entries_of (take i nodes)) (entry_of n ∷ []))
    ∙ ap (refine_list revs f) (ap (λ m. entries_of (take i nodes) ++ entry_of m ∷ []) is ∙ sym (map-append entry_of (take i nodes) (get_or nodes i n ∷ [])) ∙ ap entries_of (sym (take_more nodes i n lt)))

pub kept_all : (keep : Rev → Bool) (nodes : List Node) (t : Tree) (i : ℕ) (made : List Entry) → IsListOf nodes t → length nodes ≤ i → made ≡ refine_list revs (kept_of keep) (entries_of (take i nodes)) → made ≡ entries (restrict keep t)
kept_all keep nodes t i made h le e = e ∙ ap (λ ns. refine_list revs (kept_of keep) (entries_of ns)) (take_all i nodes le) ∙ ap (refine_list revs (kept_of keep)) (sym h.entries) ∙ sym (restrict_entries keep t)
