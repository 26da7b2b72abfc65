-- A stem where each leaf is of the newest generation: the revisions above a generation.
use Rattle.std.specs.Prelude.{◌≡◌, ◌↔◌, ℕ, zero, suc, ◌+◌, ◌-◌, ◌<◌, ◌≤◌, T, Bool, true, false, nat_lt, List, [], ◌∷◌, ◌++◌, length, get_or, take, drop, All, Contains, Option, Some, None, is_some, option_and_then, IfSome, if◌then◌else◌, refl}
use Rattle.std.specs.List.{filter_map, cons_option}
use Rattle.std.specs.FinMap.Entries.{is_sorted}
use Rattle.std.proofs.Common.{sym, ap, subst, ◌∙◌, arith, lt-ltb, ltb-true}
use Rattle.std.specs.Cmp.{both_ways}
use Rattle.std.proofs.lemmas.Bool.{cond-true}
use Rattle.std.proofs.lemmas.List.{map-append, append-nil, take_more}
use Rattle.std.proofs.Math.ListN.{length-map}
use Rattle.std.proofs.lemmas.List.Elements.{All-head, All-tail, All-cons, All-weaker, All-contains_itself, Contains-append_left, Contains-append_right, filter_map-append}
use Rattle.model.specs.Map.{entries, refine_list}
use Rattle.model.specs.Revision.{Rev, rev_cmp, revs}
use Rattle.model.specs.Tree.{Tree, Revision, IsForest, IsNear, has_child, is_leaf, knows}
use Rattle.model.specs.TreeChange.{IsRestriction, restrict, stem}
use Rattle.model.proofs.TreeLaws.{has_child-parent, child_of, leaf_known, leaf_childless, childless_leaf, knows_child}
use Rattle.model.proofs.ListLaws.{AllPairs-head, by_cases}
use Rattle.model.proofs.ReachLaws.{known_reached}
use Rattle.model.proofs.AncestorLaws.{ancestor_known}
use Rattle.model.proofs.RestrictLaws.{IsRestriction-restrict}
use Rattle.model.proofs.StemLaws.{stem-restriction, IsTree-stem, IsInRange-stem}
use Rattle.revision_tree.specs.declared.node.Node.{Node}
use Rattle.revision_tree.specs.Nodes.{Row, IsNodes, entry_of, entries_of, row_of, rows_of, tree_of}
use Rattle.revision_tree.specs.Rows.{Piece, items_of, lists_of, joined}
use Rattle.revision_tree.specs.Shortened.{cut_row, row_above, IsNearParent, IsRising}
use Rattle.revision_tree.proofs.Listed.{entries-tree_of}
use Rattle.revision_tree.proofs.Places.{Before, got, rising}
use Rattle.revision_tree.proofs.Putting.{sorted_rest, sorted_front}
use Rattle.revision_tree.proofs.Pieces.{list_read, whole_at}
use Rattle.revision_tree.proofs.Ends.{joined_more, no_older}
use Rattle.revision_tree.proofs.Grown.{with_marks, nodes_marked, tree_marked}

-- each leaf is of the newest generation
abbrev pub IsLevelTree : Tree → Type 0
IsLevelTree t = (l r : Rev) → is_leaf t l ≡ true → knows t r ≡ true → r.generation ≤ l.generation

-- ---- the revisions above a generation

abbrev is_above : ℕ → Rev → Bool
is_above g r = nat_lt g r.generation

abbrev shortened : ℕ → Revision → Revision
shortened g v = record v { parent = option_and_then (λ p. if is_above g p then Some p else None) v.parent }

abbrev kept : ℕ → Rev → Revision → Option Revision
kept g r v = if is_above g r then Some (shortened g v) else None

-- a node that is above is marked as the tree says
abbrev Said : ℕ → (Rev → Bool) → Node → Type 0
Said g m n = is_above g n.rev ≡ true → n.inner ≡ m n.rev

rows_above : (g : ℕ) (m : Rev → Bool) (ns : List Node) → All (Said g m) ns → filter_map (row_above g) (rows_of ns) ≡ refine_list revs (λ q v. Some (v, m q)) (refine_list revs (kept g) (entries_of ns))
rows_above g m [] h = refl
rows_above g m (n ∷ ns) h = at (is_above g n.rev) (All-head (Said g m) n ns h) (rows_above g m ns (All-tail (Said g m) n ns h))
  where
    v : Revision
    v = shortened g (entry_of n).1

    rest : List Row
    rest = filter_map (row_above g) (rows_of ns)

    more : List (Rev × Revision)
    more = refine_list revs (kept g) (entries_of ns)

    at : (b : Bool) → (b ≡ true → n.inner ≡ m n.rev) → rest ≡ refine_list revs (λ q v. Some (v, m q)) more
        → cons_option (if b then Some (cut_row g (row_of n)) else None) rest ≡ refine_list revs (λ q v. Some (v, m q)) (elim (if b then Some v else None) [ None ↦ more | Some y ↦ (n.rev, y) ∷ more ])
    at true said e = λ i. (n.rev, (v, said refl i)) ∷ e i
    at false said e = e

module _ (t : Tree) (f : IsForest t) (limit : ℕ) (some : 0 < limit) (newest : Rev) (known : knows t newest ≡ true) (most : (r : Rev) → knows t r ≡ true → r.generation ≤ newest.generation)
    (level : (l r : Rev) → is_leaf t l ≡ true → knows t r ≡ true → r.generation ≤ l.generation) where
  abbrev bound : ℕ
  bound = newest.generation - limit

  near_above : (r : Rev) → (is_above bound r ≡ true) × (knows t r ≡ true) ↔ IsNear limit t r
  near_above r = (
    λ h.
        let g = known_reached t f r h.1 in
        let over = ltb-true bound r.generation h.0 in
        record { leaf = g.leaf; at_leaf = g.at_leaf; steps = g.steps; few = omega (arith, over, g.allowed, most g.leaf (leaf_known t g.leaf g.at_leaf)); leads = g.leads },
    λ h.
        let up = ancestor_known t f h.steps h.leaf r (leaf_known t h.leaf h.at_leaf) h.leads in
        (lt-ltb bound r.generation (omega (arith, up.1, h.few, level h.leaf newest h.at_leaf known, f.generations r up.0)), up.0),
  )

  restriction : IsRestriction (IsNear limit t) t (restrict (is_above bound) t)
  restriction = IsRestriction-restrict (is_above bound) t (IsNear limit t) f near_above

  stem_above : stem limit t ≡ restrict (is_above bound) t
  stem_above = (stem-restriction limit t f (restrict (is_above bound) t)).1 restriction

  -- what is kept has the children that it had
  kept_children : (r : Rev) → is_above bound r ≡ true → knows t r ≡ true → has_child t r ≡ has_child (stem limit t) r
  kept_children r over k = both_ways _ _ to from ∙ ap (λ u. has_child u r) (sym stem_above)
    where
      above : is_above (newest.generation - limit) r ≡ true → r.generation < r.generation + 1
      above e = omega arith

      to : has_child t r ≡ true → has_child (restrict (is_above (newest.generation - limit)) t) r ≡ true
      to h =
          let c = child_of t r h in
          let known = knows_child t c.child r c.parent in
          let up = (f.parents c.child r c.parent).1 in
          let higher : is_above (newest.generation - limit) c.child ≡ true = lt-ltb (newest.generation - limit) c.child.generation (omega (arith, up, ltb-true (newest.generation - limit) r.generation over)) in
          has_child-parent (restrict (is_above (newest.generation - limit)) t) r c.child ((restriction.parents c.child r).1 (c.parent, (near_above c.child).0 (higher, known), (near_above r).0 (over, k)))

      from : has_child (restrict (is_above (newest.generation - limit)) t) r ≡ true → has_child t r ≡ true
      from h =
          let c = child_of (restrict (is_above (newest.generation - limit)) t) r h in
          has_child-parent t r c.child ((restriction.parents c.child r).0 c.parent).0

  -- and its leaves are those that there were
  pub stem_leaf : (r : Rev) → is_leaf (stem limit t) r ≡ true → is_leaf t r ≡ true
  stem_leaf r leaf =
      let near : IsNear limit t r = (restriction.known r).0 (ap (λ u. knows u r) (sym stem_above) ∙ leaf_known (stem limit t) r leaf) in
      let at = (near_above r).1 near in
      childless_leaf t r at.1 (kept_children r at.0 at.1 ∙ leaf_childless (stem limit t) r leaf)

entries_above : (g : ℕ) (t : Tree) → entries (restrict (is_above g) t) ≡ refine_list revs (kept g) (entries t)
unfolding restrict
entries_above g t = refl

module _ (ns : List Node) (h : IsNodes ns) (limit : ℕ) (some : 0 < limit) (newest : Rev) (known : knows (tree_of ns) newest ≡ true) (most : (r : Rev) → knows (tree_of ns) r ≡ true → r.generation ≤ newest.generation)
    (level : (l r : Rev) → is_leaf (tree_of ns) l ≡ true → knows (tree_of ns) r ≡ true → r.generation ≤ l.generation) (made : List Node) (is : rows_of made ≡ filter_map (row_above (newest.generation - limit)) (rows_of ns)) where
  abbrev u : Tree
  u = stem limit (tree_of ns)

  shortened_rows : rows_of made ≡ entries (with_marks (has_child u) u)
  shortened_rows =
      let t = tree_of ns in
      let g = newest.generation - limit in
      let e = stem_above t h.tree.forest limit some newest known most level in
      is ∙ rows_above g (has_child u) ns (All-weaker (Contains ns) (Said g (has_child u)) (λ n c over. h.inner n c ∙ kept_children t h.tree.forest limit some newest known most level n.rev over (ap is_some (got ns h.sorted n c))) ns (All-contains_itself ns))
      ∙ ap (λ es. refine_list revs (λ q v. Some (v, has_child u q)) es) (ap (refine_list revs (kept g)) (sym (entries-tree_of ns h.sorted)) ∙ sym (entries_above g t) ∙ ap entries (sym e))

  pub shortened_nodes : IsNodes made
  shortened_nodes = nodes_marked made u (has_child u) shortened_rows (λ q. refl) (IsTree-stem limit (tree_of ns) some h.tree) (IsInRange-stem limit (tree_of ns) h.tree.forest h.range)

  pub shortened_tree : tree_of made ≡ stem limit (tree_of ns)
  shortened_tree = tree_marked made u (has_child u) shortened_rows

-- ---- pieces

pub above_joined : (g : ℕ) (mss : List (List Node)) (ms all last : List Node) → rows_of (joined mss) ≡ filter_map (row_above g) (rows_of all) → rows_of ms ≡ filter_map (row_above g) (rows_of last)
    → rows_of (joined mss ++ ms) ≡ filter_map (row_above g) (rows_of (all ++ last))
above_joined g mss ms all last e f =
    map-append row_of (joined mss) ms ∙ (λ i. e i ++ f i) ∙ sym (filter_map-append (row_above g) (rows_of all) (rows_of last)) ∙ ap (filter_map (row_above g)) (sym (map-append row_of all last))

pub above_more : (g : ℕ) (all ns : List Node) (old new : List Row) → old ≡ filter_map (row_above g) (rows_of all) → new ≡ old ++ filter_map (row_above g) (rows_of ns) → new ≡ filter_map (row_above g) (rows_of (all ++ ns))
above_more g all ns old new e f =
    f ∙ ap (λ rs. rs ++ filter_map (row_above g) (rows_of ns)) e ∙ sym (filter_map-append (row_above g) (rows_of all) (rows_of ns)) ∙ ap (filter_map (row_above g)) (sym (map-append row_of all ns))

-- ---- one node

uncut_parent : (g : ℕ) (o : Option Rev) → IfSome o (λ p. g < p.generation) → option_and_then (λ p. if is_above g p then Some p else None) o ≡ o
uncut_parent g None h = refl
uncut_parent g (Some p) h = cond-true (is_above g p) (Some p) None (lt-ltb g p.generation h)

pub uncut : (g : ℕ) (n : Node) → IfSome n.parent (λ p. g < p.generation) → cut_row g (row_of n) ≡ row_of n
uncut g n h = λ i. (n.rev, (record (entry_of n).1 { parent = uncut_parent g n.parent h i }, n.inner))

pub cut_off : (g : ℕ) (n : Node) (p : Rev) → n.parent ≡ Some p → p.generation ≤ g → (n.rev, (record (entry_of n).1 { parent = None }, n.inner)) ≡ cut_row g (row_of n)
cut_off g n p e le =
    let below : is_above g p ≡ false = by_cases (is_above g p) (λ t. absurd (let lt = ltb-true g p.generation t in omega (arith, lt, le))) (λ f. f) in
    λ i. (n.rev, (record (entry_of n).1 { parent = (sym (ap (option_and_then (λ q. if is_above g q then Some q else None)) e ∙ ap (λ b. if b then Some p else None) below)) i }, n.inner))

pub kept_whole : (g : ℕ) (n : Node) → g < n.rev.generation → IfSome n.parent (λ p. g < p.generation) → row_above g (row_of n) ≡ Some (row_of n)
kept_whole g n lt h = cond-true (is_above g n.rev) (Some (cut_row g (row_of n))) None (lt-ltb g n.rev.generation lt) ∙ ap Some (uncut g n h)

pub none_above : (g : ℕ) (n : Node) → n.rev.generation ≤ g → filter_map (row_above g) (row_of n ∷ []) ≡ []
none_above g n le =
    let below : is_above g n.rev ≡ false = by_cases (is_above g n.rev) (λ t. absurd (let lt = ltb-true g n.rev.generation t in omega (arith, lt, le))) (λ f. f) in
    ap (λ b. cons_option (if b then Some (cut_row g (row_of n)) else None) []) below

pub one_above : (g : ℕ) (n : Node) → g < n.rev.generation → filter_map (row_above g) (row_of n ∷ []) ≡ cut_row g (row_of n) ∷ []
one_above g n lt = ap (λ b. cons_option (if b then Some (cut_row g (row_of n)) else None) []) (lt-ltb g n.rev.generation lt)

-- ---- nodes that begin above

over_parent : (o : Option Rev) (m g : ℕ) → g + 1 < m → IfSome o (λ p. m ≤ suc p.generation) → IfSome o (λ p. g < p.generation)
over_parent None m g lt h = tt
over_parent (Some p) m g lt h = omega (arith, lt, h)

whole_above : (g : ℕ) (ns : List Node) → All (λ n. g + 1 < n.rev.generation) ns → All IsNearParent ns → filter_map (row_above g) (rows_of ns) ≡ rows_of ns
whole_above g [] over near = refl
whole_above g (n ∷ ns) over near =
    let lt : g + 1 < n.rev.generation = All-head (λ n. g + 1 < n.rev.generation) n ns over in
    let here : row_above g (row_of n) ≡ Some (row_of n) = kept_whole g n (omega (arith, lt)) (over_parent n.parent n.rev.generation g lt (All-head IsNearParent n ns near)) in
    let rest = whole_above g ns (All-tail (λ n. g + 1 < n.rev.generation) n ns over) (All-tail IsNearParent n ns near) in
    λ i. cons_option (here i) (rest i)

pub all_above : (g : ℕ) (ns : List Node) (n : Node) (rest : List Node) → IsRising ns → ns ≡ n ∷ rest → g + 1 < n.rev.generation → filter_map (row_above g) (rows_of ns) ≡ rows_of ns
all_above g ns n rest h e lt =
    let up : IsRising (n ∷ rest) = subst IsRising e h in
    let over : All (λ m. g + 1 < m.rev.generation) (n ∷ rest) = All-cons (λ m. g + 1 < m.rev.generation) n rest lt
    (All-weaker (Before n) (λ m. g + 1 < m.rev.generation) (λ m b. omega (arith, lt, no_older n.rev m.rev b)) rest (AllPairs-head Before n rest (rising (n ∷ rest) up.sorted))) in
    subst (λ ms. filter_map (row_above g) (rows_of ms) ≡ rows_of ms) (sym e) (whole_above g (n ∷ rest) over up.near)

-- nodes of a tree that are together
pub rising_part : (ns before part after : List Node) → IsNodes ns → ns ≡ before ++ (part ++ after) → IsRising part
rising_part ns before part after h e = record {
  sorted = sorted_front (entries_of part) (entries_of after) (sorted_rest (entries_of before) (entries_of part ++ entries_of after) (subst (λ es. T (is_sorted rev_cmp es)) parts h.sorted));
  near = All-weaker (Contains part) IsNearParent (λ n c. near n n.parent refl (there n c)) part (All-contains_itself part);
}
  where
    parts : entries_of ns ≡ entries_of before ++ (entries_of part ++ entries_of after)
    parts = ap entries_of e ∙ map-append entry_of before (part ++ after) ∙ ap (λ es. entries_of before ++ es) (map-append entry_of part after)

    there : (n : Node) → Contains part n → Contains ns n
    there n c = subst (λ ms. Contains ms n) (sym e) (Contains-append_right before (part ++ after) n (Contains-append_left part after n c))

    near : (n : Node) (o : Option Rev) → n.parent ≡ o → Contains ns n → IfSome o (λ p. n.rev.generation ≤ suc p.generation)
    near n None e c = tt
    near n (Some p) e c =
        let up = h.tree.forest.parents n.rev p (ap (option_and_then (λ (v : Revision). v.parent)) (got ns h.sorted n c) ∙ e) in
        omega (arith, up.1)

same_item : {X : Type 0} (xs : List X) (i : ℕ) (d e : X) → i < length xs → get_or xs i d ≡ get_or xs i e
same_item [] i d e lt = absurd (omega arith)
same_item (x ∷ xs) zero d e lt = refl
same_item (x ∷ xs) (suc i) d e lt = same_item xs i d e (omega arith)

pub rising_pieces : (ps : List Piece) (last : List Node) → IsNodes (joined (lists_of ps) ++ last) → All IsRising (lists_of ps)
rising_pieces ps last h = λ i d lt.
    rising_part (joined (lists_of ps) ++ last) (joined (take i (lists_of ps))) (get_or (lists_of ps) i d) (joined (drop (suc i) (lists_of ps)) ++ last) h
    (whole_at (lists_of ps) last i lt ∙ ap (λ ns. joined (take i (lists_of ps)) ++ (ns ++ (joined (drop (suc i) (lists_of ps)) ++ last))) (same_item (lists_of ps) i [] d lt))

pub rising_last : (before last : List Node) → IsNodes (before ++ last) → IsRising last
rising_last before last h = rising_part (before ++ last) before last [] h (ap (λ ns. before ++ ns) (sym (append-nil last)))

pub rising_piece : (ps : List Piece) (i : ℕ) (p : Piece) → All IsRising (lists_of ps) → i < length ps → p ≡ get_or ps i p → IsRising (items_of p)
rising_piece ps i p h lt is = subst IsRising (list_read ps i p lt is) (h i [] (omega (arith, lt, length-map ps items_of)))

-- ---- node by node

pub nodes_more : (g : ℕ) (ns : List Node) (i : ℕ) (n : Node) (old new : List Row) → i < length ns → n ≡ get_or ns i n → old ≡ filter_map (row_above g) (rows_of (take i ns)) → new ≡ old ++ filter_map (row_above g) (row_of n ∷ [])
    → new ≡ filter_map (row_above g) (rows_of (take (i + 1) ns))
nodes_more g ns i n old new lt is e f =
    f ∙ ap (λ rs. rs ++ filter_map (row_above g) (row_of n ∷ [])) e ∙ sym (filter_map-append (row_above g) (rows_of (take i ns)) (row_of n ∷ []))
    ∙ ap (filter_map (row_above g)) (sym (map-append row_of (take i ns) (n ∷ [])) ∙ ap rows_of (ap (λ m. take i ns ++ m ∷ []) is ∙ sym (take_more ns i n lt)))

pub above_next : (g : ℕ) (ps : List Piece) (i : ℕ) (p : Piece) (old new : List Row) → i < length ps → p ≡ get_or ps i p → old ≡ filter_map (row_above g) (rows_of (joined (take i (lists_of ps)))) → new ≡ old ++ filter_map (row_above g) (rows_of (items_of p))
    → new ≡ filter_map (row_above g) (rows_of (joined (take (i + 1) (lists_of ps))))
above_next g ps i p old new lt is before e =
    above_more g (joined (take i (lists_of ps))) (items_of p) old new before e ∙ ap (λ ns. filter_map (row_above g) (rows_of ns)) (sym (joined_more ps i p lt is))
