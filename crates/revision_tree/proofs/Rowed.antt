-- The nodes with their marks, as entries in the order of their revisions.
use Rattle.std.specs.Prelude.{◌≡◌, ℕ, zero, suc, ◌+◌, ◌<◌, ◌≤◌, T, Bool, true, false, ◌&&◌, List, [], ◌∷◌, ◌++◌, map, length, get_or, take, drop, set, All, AllPairs, Contains, Option, Some, None, is_some, option_map, cond, refl}
use Rattle.std.specs.List.{insert}
use Rattle.std.proofs.Common.{sym, ap, subst, ◌∙◌, arith, length-take, length-drop, get_or-take}
use Rattle.std.specs.declared.cmp.Ordering.TheVariants.{Less, Equal, Greater}
use Rattle.std.specs.Ordering.{is_lt}
use Rattle.std.specs.List.Sorted.{IsPartitionPoint}
use Rattle.std.specs.FinMap.Entries.{by_order, find, put, is_sorted, below_all}
use Rattle.std.proofs.lemmas.Bool.{true≢false}
use Rattle.std.proofs.lemmas.List.{map-append, take-append-drop, get_or-drop}
use Rattle.std.proofs.lemmas.List.Elements.{All-map}
use Rattle.model.specs.Map.{Map}
use Rattle.model.specs.Revision.{Rev, rev_cmp, rev_exact, revs, same_rev}
use Rattle.model.specs.Tree.{Revision, knows}
use Rattle.model.proofs.ListLaws.{AllPairs-head, AllPairs-tail, Contains-map}
use Rattle.model.proofs.MapLaws.{Contains-entries}
use Rattle.revision_tree.specs.declared.node.Node.{Node}
use Rattle.revision_tree.specs.Nodes.{Row, IsSorted, entry_of, entries_of, row_of, rows_of, tree_of}
use Rattle.revision_tree.proofs.Listed.{entries-tree_of}
use Rattle.revision_tree.proofs.Places.{Before}
use Rattle.revision_tree.proofs.Putting.{above_key, put-over, put-under, put-same}

-- ---- rows against entries

below_rows : (k : Rev) (ns : List Node) → below_all rev_cmp k (entries_of ns) ≡ below_all rev_cmp k (rows_of ns)
below_rows k [] = refl
below_rows k (n ∷ ns) = ap (λ b. is_lt (rev_cmp k n.rev) && b) (below_rows k ns)

sorted_same : (ns : List Node) → is_sorted rev_cmp (entries_of ns) ≡ is_sorted rev_cmp (rows_of ns)
sorted_same [] = refl
sorted_same (n ∷ ns) = λ i. below_rows n.rev ns i && sorted_same ns i

pub sorted_rows : (ns : List Node) → IsSorted ns → T (is_sorted rev_cmp (rows_of ns))
sorted_rows ns h = subst T (sorted_same ns) h

pub sorted_from_rows : (ns : List Node) → T (is_sorted rev_cmp (rows_of ns)) → IsSorted ns
sorted_from_rows ns h = subst T (sym (sorted_same ns)) h

abbrev pub bare_entry : Row → Rev × Revision
bare_entry r = (r.0, r.1.0)

pub entries_of-rows : (ns : List Node) → map bare_entry (rows_of ns) ≡ entries_of ns
entries_of-rows [] = refl
entries_of-rows (n ∷ ns) = ap (λ es. entry_of n ∷ es) (entries_of-rows ns)

pub find_entry : (r : Rev) (rows : List Row) → option_map (λ v. v.0) (find rev_cmp r rows) ≡ find rev_cmp r (map bare_entry rows)
find_entry r [] = refl
find_entry r (x ∷ xs) = at (same_rev r x.0) (find_entry r xs)
  where
    at : (b : Bool) → option_map (λ v. v.0) (find rev_cmp r xs) ≡ find rev_cmp r (map bare_entry xs)
        → option_map (λ v. v.0) (cond b (Some x.1) (find rev_cmp r xs)) ≡ cond b (Some x.1.0) (find rev_cmp r (map bare_entry xs))
    at true h = refl
    at false h = h

pub found_entry : (ns : List Node) (r : Rev) → option_map (λ v. v.0) (find rev_cmp r (rows_of ns)) ≡ find rev_cmp r (entries_of ns)
found_entry ns r = find_entry r (rows_of ns) ∙ ap (find rev_cmp r) (entries_of-rows ns)

-- each node is found by its revision
pub row_found : (ns : List Node) (n : Node) → IsSorted ns → Contains ns n → find rev_cmp n.rev (rows_of ns) ≡ Some (row_of n).1
row_found ns n h c =
    let m : Map revs (Revision × Bool) = record { list = rows_of ns; sorted = sorted_rows ns h } in
    (Contains-entries revs m n.rev (row_of n).1).0 (Contains-map row_of ns n c)

no_row : (o : Option (Revision × Bool)) → is_some (option_map (λ v. v.0) o) ≡ false → o ≡ None
no_row None e = refl
no_row (Some v) e = absurd (true≢false e)

-- and no other revision is
pub row_unknown : (ns : List Node) (r : Rev) → IsSorted ns → knows (tree_of ns) r ≡ false → find rev_cmp r (rows_of ns) ≡ None
row_unknown ns r h k =
    no_row (find rev_cmp r (rows_of ns)) (ap is_some (found_entry ns r ∙ ap (find rev_cmp r) (sym (entries-tree_of ns h))) ∙ k)

-- ---- a node put in its place

pub put_set : (ns : List Node) (i : ℕ) (n : Node) → AllPairs Before ns → i < length ns → ((d : Node) → rev_cmp (get_or ns i d).rev n.rev ≡ Equal) → rows_of (set ns i n) ≡ put rev_cmp n.rev (row_of n).1 (rows_of ns)
put_set [] i n h lt e = absurd (omega arith)
put_set (m ∷ ms) zero n h lt e = sym (put-same n.rev (row_of n).1 (row_of m) (rows_of ms) (rev_exact m.rev n.rev (e n)))
put_set (m ∷ ms) (suc i) n h lt e =
    let before : rev_cmp m.rev n.rev ≡ Less = subst (λ q. rev_cmp m.rev q ≡ Less) (rev_exact (get_or ms i n).rev n.rev (e n)) (AllPairs-head Before m ms h i n (omega arith)) in
    let v = (row_of n).1 in
    ap (λ rs. row_of m ∷ rs) (put_set ms i n (AllPairs-tail Before m ms h) (omega arith) e)
    ∙ sym (ap (λ o. by_order o ((n.rev, v) ∷ row_of m ∷ rows_of ms) ((m.rev, v) ∷ rows_of ms) (row_of m ∷ put rev_cmp n.rev v (rows_of ms))) (above_key n.rev m.rev before))

pub put_insert : (ns : List Node) (i : ℕ) (n : Node) → i ≤ length ns → IsPartitionPoint (λ m. rev_cmp m.rev n.rev ≡ Less) (λ m. rev_cmp m.rev n.rev ≡ Greater) ns i → rows_of (insert ns i n) ≡ put rev_cmp n.rev (row_of n).1 (rows_of ns)
put_insert ns i n le part =
    map-append row_of (take i ns) (n ∷ drop i ns)
    ∙ ap (λ rs. rows_of (take i ns) ++ rs) (sym (put-under n.rev (row_of n).1 [] (rows_of (drop i ns)) above))
    ∙ sym (put-over n.rev (row_of n).1 (rows_of (take i ns)) (rows_of (drop i ns)) below)
    ∙ ap (put rev_cmp n.rev (row_of n).1) (sym (map-append row_of (take i ns) (drop i ns)) ∙ ap rows_of (take-append-drop i ns))
  where
    below : All (λ e. rev_cmp e.0 n.rev ≡ Less) (rows_of (take i ns))
    below = All-map (λ e. rev_cmp e.0 n.rev ≡ Less) row_of (take i ns)
        (λ k d lt. let within : k < i = omega (arith, lt, length-take i ns) in subst (λ (m : Node). rev_cmp m.rev n.rev ≡ Less) (sym (get_or-take i ns k d within)) (part.0 k d (omega arith) within))

    flipped : (a b : Rev) → rev_cmp a b ≡ Greater → rev_cmp b a ≡ Less
    flipped a b e = Rattle.model.specs.Revision.rev_total.antisymm b a ∙ ap Rattle.std.specs.Ordering.ordering_reverse e

    above : All (λ e. rev_cmp n.rev e.0 ≡ Less) (rows_of (drop i ns))
    above = All-map (λ e. rev_cmp n.rev e.0 ≡ Less) row_of (drop i ns)
        (λ k d lt. subst (λ (m : Node). rev_cmp n.rev m.rev ≡ Less) (sym (get_or-drop i ns k d)) (flipped (get_or ns (i + k) d).rev n.rev (part.1 (i + k) d (omega arith) (omega (arith, lt, length-drop i ns)))))

pub put_some : {X : Type 0} (r : Rev) (v : X) (es : List (Rev × X)) → 0 < length (put rev_cmp r v es)
put_some r v [] = omega arith
put_some r v (e ∷ es) = at (rev_cmp r e.0)
  where
    at : (o : Rattle.std.specs.declared.cmp.Ordering.Ordering) → 0 < length (by_order o ((r, v) ∷ e ∷ es) ((e.0, v) ∷ es) (e ∷ put rev_cmp r v es))
    at Less = omega arith
    at Equal = omega arith
    at Greater = omega arith

pub sorted_alike : (ms ns : List Node) → rows_of ms ≡ rows_of ns → IsSorted ns → IsSorted ms
sorted_alike ms ns e h = sorted_from_rows ms (subst (λ rs. T (is_sorted rev_cmp rs)) (sym e) (sorted_rows ns h))

pub values_of : {Z : Type 0} (f : Z → Revision × Bool) (o : Option Z) → option_map (λ z. (f z).0) o ≡ option_map (λ v. v.0) (option_map f o)
values_of f None = refl
values_of f (Some z) = refl
