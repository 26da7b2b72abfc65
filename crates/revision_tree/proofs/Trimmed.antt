-- Nodes without one revision.
use Rattle.std.specs.Prelude.{◌≡◌, ℕ, zero, suc, ◌+◌, ◌<◌, T, Bool, true, false, not, List, [], ◌∷◌, ◌++◌, length, get_or, take, drop, All, AllPairs, Contains, Option, Some, None, option_and_then, if◌then◌else◌, refl}
use Rattle.std.specs.List.{filter_map, cons_option}
use Rattle.std.proofs.Common.{sym, ap, subst, ◌∙◌, arith}
use Rattle.std.specs.Ordering.{is_lt}
use Rattle.std.specs.declared.cmp.Ordering.TheVariants.{Less}
use Rattle.std.proofs.lemmas.Bool.{true≢false, not_from_false}
use Rattle.std.proofs.lemmas.List.{map-append, take_more}
use Rattle.std.proofs.Math.ListN.{length-map}
use Rattle.std.proofs.lemmas.List.Elements.{All-head, All-tail, All-nil, All-cons, All-weaker, All-contains, All-contains_itself, Contains-push, Contains-append_left, Contains-append_right, filter_map-append}
use Rattle.model.specs.Map.{entries, refine_list}
use Rattle.model.specs.Revision.{Rev, rev_cmp, rev_total, revs, same_rev, same_rev-equal}
use Rattle.model.specs.Tree.{Tree, Revision}
use Rattle.model.specs.TreeChange.{restrict}
use Rattle.model.proofs.ListLaws.{by_cases, AllPairs-head, AllPairs-tail}
use Rattle.model.proofs.MapLaws.{same_key-apart}
use Rattle.model.proofs.PathLaws.{same_rev-symm}
use Rattle.revision_tree.specs.declared.node.Node.{Node}
use Rattle.revision_tree.specs.Nodes.{Row, IsNodes, IsSorted, entry_of, entries_of, row_of, rows_of}
use Rattle.revision_tree.specs.Rows.{Piece, items_of, lists_of, joined}
use Rattle.revision_tree.specs.Trimmed.{is_other, row_apart, row_without, IsChildOnly, IsPart}
use Rattle.revision_tree.proofs.Ends.{joined_more}
use Rattle.revision_tree.proofs.Listed.{less}
use Rattle.revision_tree.proofs.Places.{Before, rising}
use Rattle.revision_tree.proofs.Pieces.{list_read, whole_at}
use Rattle.revision_tree.proofs.Shortened.{rising_part}

-- ---- the revisions of a tree but one

abbrev apart : Rev → Revision → Revision
apart r v = record v { parent = option_and_then (λ p. if is_other r p then Some p else None) v.parent }

abbrev pub kept : Rev → Rev → Revision → Option Revision
kept r q v = if is_other r q then Some (apart r v) else None

-- a node of another is marked as the tree says
abbrev pub Said : Rev → (Rev → Bool) → Node → Type 0
Said r m n = is_other r n.rev ≡ true → n.inner ≡ m n.rev

pub rows_without : (r : Rev) (m : Rev → Bool) (ns : List Node) → All (Said r m) ns → filter_map (row_without r) (rows_of ns) ≡ refine_list revs (λ q v. Some (v, m q)) (refine_list revs (kept r) (entries_of ns))
rows_without r m [] h = refl
rows_without r m (n ∷ ns) h = at (is_other r n.rev) (All-head (Said r m) n ns h) (rows_without r m ns (All-tail (Said r m) n ns h))
  where
    v : Revision
    v = apart r (entry_of n).1

    rest : List Row
    rest = filter_map (row_without r) (rows_of ns)

    more : List (Rev × Revision)
    more = refine_list revs (kept r) (entries_of ns)

    at : (b : Bool) → (b ≡ true → n.inner ≡ m n.rev) → rest ≡ refine_list revs (λ q v. Some (v, m q)) more
        → cons_option (if b then Some (row_apart r (row_of n)) else None) rest ≡ refine_list revs (λ q v. Some (v, m q)) (elim (if b then Some v else None) [ None ↦ more | Some y ↦ (n.rev, y) ∷ more ])
    at true said e = λ i. (n.rev, (v, said refl i)) ∷ e i
    at false said e = e

pub other_of : (r q : Rev) → (q ≡ r → ⊥) → is_other r q ≡ true
other_of r q h = not_from_false (same_rev r q) (by_cases (same_rev r q) (λ e. absurd (h (sym ((same_rev-equal r q).0 e)))) (λ e. e))

pub entries_other : (r : Rev) (t : Tree) → entries (restrict (is_other r) t) ≡ refine_list revs (kept r) (entries t)
unfolding restrict
entries_other r t = refl

-- ---- one node

pub apart_other : (r : Rev) (n : Node) (o : Option Rev) → n.parent ≡ o → (o ≡ Some r → ⊥) → row_apart r (row_of n) ≡ row_of n
apart_other r n None e h = λ i. (n.rev, (record (entry_of n).1 { parent = (ap (option_and_then (λ p. if is_other r p then Some p else None)) e ∙ sym e) i }, n.inner))
apart_other r n (Some p) e h =
    let other : is_other r p ≡ true = other_of r p (λ same. h (ap Some same)) in
    let whole : option_and_then (λ p. if is_other r p then Some p else None) n.parent ≡ n.parent = ap (option_and_then (λ p. if is_other r p then Some p else None)) e ∙ ap (λ b. if b then Some p else None) other ∙ sym e in
    λ i. (n.rev, (record (entry_of n).1 { parent = whole i }, n.inner))

pub apart_child : (r : Rev) (n : Node) (p : Rev) → n.parent ≡ Some p → same_rev p r ≡ true → (n.rev, (record (entry_of n).1 { parent = None }, n.inner)) ≡ row_apart r (row_of n)
apart_child r n p e same =
    let off : is_other r p ≡ false = ap (λ b. not b) ((same_rev-equal r p).1 (sym ((same_rev-equal p r).0 same))) in
    let none : None ≡ option_and_then (λ p. if is_other r p then Some p else None) n.parent = sym (ap (option_and_then (λ p. if is_other r p then Some p else None)) e ∙ ap (λ b. if b then Some p else None) off) in
    λ i. (n.rev, (record (entry_of n).1 { parent = none i }, n.inner))

pub none_without : (r : Rev) (n : Node) → same_rev n.rev r ≡ true → filter_map (row_without r) (row_of n ∷ []) ≡ []
none_without r n same =
    let off : is_other r n.rev ≡ false = ap (λ b. not b) ((same_rev-equal r n.rev).1 (sym ((same_rev-equal n.rev r).0 same))) in
    ap (λ b. cons_option (if b then Some (row_apart r (row_of n)) else None) []) off

pub one_without : (r : Rev) (n : Node) → same_rev n.rev r ≡ false → filter_map (row_without r) (row_of n ∷ []) ≡ row_apart r (row_of n) ∷ []
one_without r n apart =
    let on : is_other r n.rev ≡ true = other_of r n.rev (λ e. true≢false (sym ((same_rev-equal n.rev r).1 e) ∙ apart)) in
    ap (λ b. cons_option (if b then Some (row_apart r (row_of n)) else None) []) on

-- ---- nodes among which neither the revision nor its child is

abbrev pub IsAway : Rev → Node → Type 0
IsAway r n = same_rev r n.rev ≡ false

pub whole_without : (r child : Rev) (ns : List Node) → All (IsChildOnly r child) ns → All (IsAway r) ns → All (IsAway child) ns → filter_map (row_without r) (rows_of ns) ≡ rows_of ns
whole_without r child [] only a b = refl
whole_without r child (n ∷ ns) only a b =
    let on : is_other r n.rev ≡ true = not_from_false (same_rev r n.rev) (All-head (IsAway r) n ns a) in
    let far : same_rev child n.rev ≡ false = All-head (IsAway child) n ns b in
    let same : row_apart r (row_of n) ≡ row_of n = apart_other r n n.parent refl (λ e. true≢false (sym ((same_rev-equal child n.rev).1 (sym (All-head (IsChildOnly r child) n ns only e))) ∙ far)) in
    let rest = whole_without r child ns (All-tail (IsChildOnly r child) n ns only) (All-tail (IsAway r) n ns a) (All-tail (IsAway child) n ns b) in
    (λ i. cons_option (if on i then Some (same i) else None) (rest i))

-- a revision that is below the first
pub away_first : (r : Rev) (ns : List Node) (n : Node) (rest : List Node) → IsSorted ns → ns ≡ n ∷ rest → is_lt (rev_cmp r n.rev) ≡ true → All (IsAway r) ns
away_first r ns n rest h e lt =
    let up : AllPairs Before (n ∷ rest) = rising (n ∷ rest) (subst IsSorted e h) in
    let here : rev_cmp r n.rev ≡ Less = less (rev_cmp r n.rev) (subst T (sym lt) tt) in
    subst (All (IsAway r)) (sym e) (All-cons (IsAway r) n rest (same_rev-symm r n.rev ∙ same_key-apart revs r n.rev here)
    (All-weaker (Before n) (IsAway r) (λ m b. same_rev-symm r m.rev ∙ same_key-apart revs r m.rev (rev_total.trans r n.rev m.rev here b)) rest (AllPairs-head Before n rest up)))

before_all : (r : Rev) (xs : List Node) (n : Node) → AllPairs Before (xs ++ n ∷ []) → rev_cmp n.rev r ≡ Less → All (IsAway r) (xs ++ n ∷ [])
before_all r [] n h lt = All-cons (IsAway r) n [] (same_key-apart revs n.rev r lt) (All-nil (IsAway r))
before_all r (x ∷ xs) n h lt =
    let b : Before x n = All-contains (Before x) (xs ++ n ∷ []) n (AllPairs-head Before x (xs ++ n ∷ []) h) (Contains-push xs n) in
    All-cons (IsAway r) x (xs ++ n ∷ []) (same_key-apart revs x.rev r (rev_total.trans x.rev n.rev r b lt)) (before_all r xs n (AllPairs-tail Before x (xs ++ n ∷ []) h) lt)

-- a revision that is above the last
pub away_last : (r : Rev) (ns before : List Node) (n : Node) → IsSorted ns → ns ≡ before ++ n ∷ [] → is_lt (rev_cmp n.rev r) ≡ true → All (IsAway r) ns
away_last r ns before n h e lt =
    subst (All (IsAway r)) (sym e) (before_all r before n (rising (before ++ n ∷ []) (subst IsSorted e h)) (less (rev_cmp n.rev r) (subst T (sym lt) tt)))

-- ---- pieces

pub without_joined : (f : Row → Option Row) (mss : List (List Node)) (ms all last : List Node) → rows_of (joined mss) ≡ filter_map f (rows_of all) → rows_of ms ≡ filter_map f (rows_of last) → rows_of (joined mss ++ ms) ≡ filter_map f (rows_of (all ++ last))
without_joined f mss ms all last e g =
    map-append row_of (joined mss) ms ∙ (λ i. e i ++ g i) ∙ sym (filter_map-append f (rows_of all) (rows_of last)) ∙ ap (filter_map f) (sym (map-append row_of all last))

pub without_more : (f : Row → Option Row) (all ns : List Node) (old new : List Row) → old ≡ filter_map f (rows_of all) → new ≡ old ++ filter_map f (rows_of ns) → new ≡ filter_map f (rows_of (all ++ ns))
without_more f all ns old new e g =
    g ∙ ap (λ rs. rs ++ filter_map f (rows_of ns)) e ∙ sym (filter_map-append f (rows_of all) (rows_of ns)) ∙ ap (filter_map f) (sym (map-append row_of all ns))

pub without_next : (f : Row → Option Row) (ps : List Piece) (i : ℕ) (p : Piece) (old new : List Row) → i < length ps → p ≡ get_or ps i p → old ≡ filter_map f (rows_of (joined (take i (lists_of ps)))) → new ≡ old ++ filter_map f (rows_of (items_of p))
    → new ≡ filter_map f (rows_of (joined (take (i + 1) (lists_of ps))))
without_next f ps i p old new lt is before e =
    without_more f (joined (take i (lists_of ps))) (items_of p) old new before e ∙ ap (λ ns. filter_map f (rows_of ns)) (sym (joined_more ps i p lt is))

pub nodes_next : (f : Row → Option Row) (ns : List Node) (i : ℕ) (n : Node) (old new : List Row) → i < length ns → n ≡ get_or ns i n → old ≡ filter_map f (rows_of (take i ns)) → new ≡ old ++ filter_map f (row_of n ∷ [])
    → new ≡ filter_map f (rows_of (take (i + 1) ns))
nodes_next f ns i n old new lt is e g =
    g ∙ ap (λ rs. rs ++ filter_map f (row_of n ∷ [])) e ∙ sym (filter_map-append f (rows_of (take i ns)) (row_of n ∷ []))
    ∙ ap (filter_map f) (sym (map-append row_of (take i ns) (n ∷ [])) ∙ ap rows_of (ap (λ m. take i ns ++ m ∷ []) is ∙ sym (take_more ns i n lt)))

-- ---- parts of a tree's nodes

same_item : {X : Type 0} (xs : List X) (i : ℕ) (d e : X) → i < length xs → get_or xs i d ≡ get_or xs i e
same_item [] i d e lt = absurd (omega arith)
same_item (x ∷ xs) zero d e lt = refl
same_item (x ∷ xs) (suc i) d e lt = same_item xs i d e (omega arith)

pub part_of : (r child : Rev) (ns before part after : List Node) → IsNodes ns → All (IsChildOnly r child) ns → ns ≡ before ++ (part ++ after) → IsPart r child part
part_of r child ns before part after h only e = record {
  sorted = (rising_part ns before part after h e).sorted;
  children = All-weaker (Contains part) (IsChildOnly r child) (λ n c. All-contains (IsChildOnly r child) ns n only (there n c)) part (All-contains_itself part);
}
  where
    there : (n : Node) → Contains part n → Contains ns n
    there n c = subst (λ ms. Contains ms n) (sym e) (Contains-append_right before (part ++ after) n (Contains-append_left part after n c))

pub parts_of : (r child : Rev) (ps : List Piece) (last : List Node) → IsNodes (joined (lists_of ps) ++ last) → All (IsChildOnly r child) (joined (lists_of ps) ++ last) → All (IsPart r child) (lists_of ps)
parts_of r child ps last h only = λ i d lt.
    part_of r child (joined (lists_of ps) ++ last) (joined (take i (lists_of ps))) (get_or (lists_of ps) i d) (joined (drop (suc i) (lists_of ps)) ++ last) h only
    (whole_at (lists_of ps) last i lt ∙ ap (λ ns. joined (take i (lists_of ps)) ++ (ns ++ (joined (drop (suc i) (lists_of ps)) ++ last))) (same_item (lists_of ps) i [] d lt))

pub part_at : (r child : Rev) (ps : List Piece) (i : ℕ) (p : Piece) → All (IsPart r child) (lists_of ps) → i < length ps → p ≡ get_or ps i p → IsPart r child (items_of p)
part_at r child ps i p h lt is = subst (IsPart r child) (list_read ps i p lt is) (h i [] (omega (arith, lt, length-map ps items_of)))
