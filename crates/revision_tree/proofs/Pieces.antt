-- The piece that a revision is in.
use Rattle.std.specs.Prelude.{◌≡◌, ℕ, zero, suc, ◌+◌, ◌-◌, ◌<◌, ◌≤◌, T, Bool, true, false, not, List, [], ◌∷◌, ◌++◌, length, get_or, take, drop, set, All, AllPairs, Contains, Result, Ok, Err, IfOk, refl}
use Rattle.std.proofs.Common.{sym, ap, subst, ◌∙◌, arith, append_assoc, length-take, length-drop, ⊎_elim}
use Rattle.std.specs.List.{flat_map, insert}
use Rattle.std.specs.declared.cmp.Ordering.{Ordering}
use Rattle.std.specs.declared.cmp.Ordering.TheVariants.{Less, Equal, Greater}
use Rattle.std.specs.Ordering.{is_lt}
use Rattle.std.specs.FinMap.Entries.{find, put, is_sorted}
use Rattle.std.proofs.Math.ListN.{length-map}
use Rattle.std.proofs.lemmas.Bool.{true≢false, cases_lt}
use Rattle.std.proofs.lemmas.List.{map-append, map-set, take-map, drop-map, take_all, drop_all, drop_at, take-append-drop, append-nil, get_or-map}
use Rattle.std.proofs.lemmas.List.Elements.{All-nil, All-cons, All-head, All-map, All-weaker, All-append, All-push, All-set, All-take, All-drop, Contains-append_left, Contains-append_right}
use Rattle.model.specs.Revision.{Rev, rev_cmp, rev_total, rev_exact}
use Rattle.model.specs.Tree.{Revision}
use Rattle.model.proofs.ListLaws.{AllPairs-head, AllPairs-tail}
use Rattle.revision_tree.specs.declared.node.Node.{Node}
use Rattle.revision_tree.specs.declared.rows.Rows.{Rows}
use Rattle.revision_tree.specs.Nodes.{Row, IsSorted, entry_of, entries_of, row_of, rows_of}
use Rattle.revision_tree.specs.Rows.{Piece, items_of, lists_of, joined, nodes_of, AreFilled, starts_by, AllBelow, AllAbove, IsPlaceFor}
use Rattle.revision_tree.proofs.Places.{Before, rising}
use Rattle.revision_tree.proofs.Putting.{put-over, put-under, find-over, find-under, sorted_rest, sorted_front}

-- ---- parts of a list in order

pairs_rest : (xs ys : List Node) → AllPairs Before (xs ++ ys) → AllPairs Before ys
pairs_rest [] ys h = h
pairs_rest (x ∷ xs) ys h = pairs_rest xs ys (AllPairs-tail Before x (xs ++ ys) h)

all_rest : (P : Node → Type 0) (xs ys : List Node) → All P (xs ++ ys) → All P ys
all_rest P xs ys h = subst (All P) (drop_at xs ys (length xs) refl) (All-drop P (length xs) (xs ++ ys) h)

not_above : (r : Rev) (m n : Node) → Before m n → is_lt (rev_cmp r n.rev) ≡ false → rev_cmp m.rev r ≡ Less
not_above r m n before e = at (rev_cmp r n.rev) refl e
  where
    at : (o : Ordering) → rev_cmp r n.rev ≡ o → is_lt o ≡ false → rev_cmp m.rev r ≡ Less
    at Less k e = absurd (true≢false e)
    at Equal k e = subst (λ q. rev_cmp m.rev q ≡ Less) (sym (rev_exact r n.rev k)) before
    at Greater k e = rev_total.trans m.rev n.rev r before (rev_total.antisymm n.rev r ∙ ap Rattle.std.specs.Ordering.ordering_reverse k)

pub below_first : (r : Rev) (xs : List Node) (n : Node) (ys : List Node) → AllPairs Before (xs ++ (n ∷ ys)) → is_lt (rev_cmp r n.rev) ≡ false → AllBelow r xs
below_first r [] n ys h e = All-nil (λ m. rev_cmp m.rev r ≡ Less)
below_first r (x ∷ xs) n ys h e =
    All-cons (λ m. rev_cmp m.rev r ≡ Less) x xs
    (not_above r x n (All-head (Before x) n ys (all_rest (Before x) xs (n ∷ ys) (AllPairs-head Before x (xs ++ (n ∷ ys)) h))) e)
    (below_first r xs n ys (AllPairs-tail Before x (xs ++ (n ∷ ys)) h) e)

below_start : (r : Rev) (xs ns ys : List Node) → AllPairs Before (xs ++ (ns ++ ys)) → starts_by r ns ≡ true → AllBelow r xs
below_start r xs [] ys h e = absurd (true≢false (sym e))
below_start r xs (n ∷ ns) ys h e = below_first r xs n (ns ++ ys) h (at (is_lt (rev_cmp r n.rev)) e)
  where
    at : (b : Bool) → not b ≡ true → b ≡ false
    at true e = absurd (true≢false (sym e))
    at false e = refl

above_start : (r : Rev) (ns : List Node) → AllPairs Before ns → starts_by r ns ≡ false → AllAbove r ns
above_start r [] h e = All-nil (λ m. rev_cmp r m.rev ≡ Less)
above_start r (n ∷ ns) h e =
    let first : rev_cmp r n.rev ≡ Less = at (rev_cmp r n.rev) e in
    All-cons (λ m. rev_cmp r m.rev ≡ Less) n ns first (All-weaker (Before n) (λ m. rev_cmp r m.rev ≡ Less) (λ m b. rev_total.trans r n.rev m.rev first b) ns (AllPairs-head Before n ns h))
  where
    at : (o : Ordering) → not (is_lt o) ≡ false → o ≡ Less
    at Less e = refl
    at Equal e = absurd (true≢false e)
    at Greater e = absurd (true≢false e)

starts-append : (r : Rev) (ns ys : List Node) → 0 < length ns → starts_by r (ns ++ ys) ≡ starts_by r ns
starts-append r [] ys some = absurd (omega (arith, some))
starts-append r (n ∷ ns) ys some = refl

-- ---- the pieces

pub joined_at : (nss : List (List Node)) (i : ℕ) → i < length nss → joined nss ≡ joined (take i nss) ++ (get_or nss i [] ++ joined (drop (suc i) nss))
joined_at [] i lt = absurd (omega arith)
joined_at (ns ∷ nss) zero lt = refl
joined_at (ns ∷ nss) (suc i) lt = ap (λ ms. ns ++ ms) (joined_at nss i (omega arith)) ∙ sym (append_assoc ns (joined (take i nss)) (get_or nss i [] ++ joined (drop (suc i) nss)))

pub joined_from : (nss : List (List Node)) (i : ℕ) → i < length nss → joined (drop i nss) ≡ get_or nss i [] ++ joined (drop (suc i) nss)
joined_from [] i lt = absurd (omega arith)
joined_from (ns ∷ nss) zero lt = refl
joined_from (ns ∷ nss) (suc i) lt = joined_from nss i (omega arith)

pub whole_at : (nss : List (List Node)) (last : List Node) (i : ℕ) → i < length nss → joined nss ++ last ≡ joined (take i nss) ++ (get_or nss i [] ++ (joined (drop (suc i) nss) ++ last))
whole_at nss last i lt =
    ap (λ ms. ms ++ last) (joined_at nss i lt) ∙ append_assoc (joined (take i nss)) (get_or nss i [] ++ joined (drop (suc i) nss)) last
    ∙ ap (λ ms. joined (take i nss) ++ ms) (append_assoc (get_or nss i []) (joined (drop (suc i) nss)) last)

joined-take-drop : (nss : List (List Node)) (i : ℕ) → joined nss ≡ joined (take i nss) ++ joined (drop i nss)
joined-take-drop [] zero = refl
joined-take-drop [] (suc i) = refl
joined-take-drop (ns ∷ nss) zero = refl
joined-take-drop (ns ∷ nss) (suc i) = ap (λ ms. ns ++ ms) (joined-take-drop nss i) ∙ sym (append_assoc ns (joined (take i nss)) (joined (drop i nss)))

module _ (nss : List (List Node)) (last : List Node) (r : Rev) (filled : AreFilled nss) (rise : AllPairs Before (joined nss ++ last)) where
  pub below_last : starts_by r last ≡ true → AllBelow r (joined nss)
  below_last e = below_start r (joined nss) last [] (subst (λ ms. AllPairs Before (joined nss ++ ms)) (sym (append-nil last)) rise) e

  pub below_at : (i : ℕ) → i < length nss → starts_by r (get_or nss i []) ≡ true → AllBelow r (joined (take i nss))
  below_at i lt e = below_start r (joined (take i nss)) (get_or nss i []) (joined (drop (suc i) nss) ++ last) (subst (AllPairs Before) (whole_at nss last i lt) rise) e

  rise_from : (i : ℕ) → AllPairs Before (joined (drop i nss) ++ last)
  rise_from i = pairs_rest (joined (take i nss)) (joined (drop i nss) ++ last)
      (subst (AllPairs Before) (ap (λ ms. ms ++ last) (joined-take-drop nss i) ∙ append_assoc (joined (take i nss)) (joined (drop i nss)) last) rise)

  -- from the first piece that starts above it
  above_at : (i : ℕ) → (i < length nss → starts_by r (get_or nss i []) ≡ false) → starts_by r last ≡ false → i ≤ length nss → AllAbove r (joined (drop i nss) ++ last)
  above_at i piece tail le = above_start r (joined (drop i nss) ++ last) (rise_from i) (⊎_elim
      (λ lt. ap (λ ms. starts_by r (ms ++ last)) (joined_from nss i lt) ∙ ap (starts_by r) (append_assoc (get_or nss i []) (joined (drop (suc i) nss)) last)
      ∙ starts-append r (get_or nss i []) (joined (drop (suc i) nss) ++ last) (filled i [] lt) ∙ piece lt)
      (λ ge. ap (λ ms. starts_by r (joined ms ++ last)) (drop_all i nss ge) ∙ tail)
      (cases_lt i (length nss)))

  pub above_next : (s : ℕ) → (s < length nss → starts_by r (get_or nss s []) ≡ false) → starts_by r last ≡ false → s ≤ length nss → s - 1 < length nss → AllAbove r (joined (drop (suc (s - 1)) nss) ++ last)
  above_next zero piece tail le lt =
      let some : 0 < length nss = omega (arith, lt) in
      all_rest (λ m. rev_cmp r m.rev ≡ Less) (get_or nss 0 []) (joined (drop 1 nss) ++ last)
      (subst (AllAbove r) (ap (λ ms. ms ++ last) (joined_from nss 0 some) ∙ append_assoc (get_or nss 0 []) (joined (drop 1 nss)) last) (above_at 0 piece tail le))
  above_next (suc s) piece tail le lt =
      let same : suc s ≡ suc (suc s - 1) = omega arith in
      subst (λ k. AllAbove r (joined (drop k nss) ++ last)) same (above_at (suc s) piece tail le)

-- ---- the place of the piece

pub some_of : {X : Type 0} (xs : List X) (i : ℕ) → i < length xs → X
some_of [] i lt = absurd (omega arith)
some_of (x ∷ xs) i lt = x

list_at : (ps : List Piece) (i : ℕ) (p : Piece) → i < length ps → get_or (lists_of ps) i [] ≡ items_of (get_or ps i p)
list_at ps i p lt = get_or-map items_of ps i p [] lt

pub list_read : (ps : List Piece) (i : ℕ) (p : Piece) → i < length ps → p ≡ get_or ps i p → get_or (lists_of ps) i [] ≡ items_of p
list_read ps i p lt is = list_at ps i p lt ∙ ap items_of (sym is)

module _ (rs : Rows) (r : Rev) (sorted : IsSorted (nodes_of rs)) (filled : AreFilled (lists_of rs.older.items)) where
  abbrev older : List Piece
  older = rs.older.items

  long : length (lists_of older) ≡ length older
  long = length-map older items_of

  rise : AllPairs Before (joined (lists_of older) ++ rs.last.items)
  rise = rising (nodes_of rs) sorted

  pub place_last : (n : ℕ) → n ≡ length older → starts_by r rs.last.items ≡ true → IsPlaceFor rs r n
  place_last n e starts = record {
    bound = omega (arith, e);
    below = subst (λ nss. AllBelow r (joined nss)) (sym (take_all n (lists_of older) (omega (arith, e, long)))) (below_last (lists_of older) rs.last.items r filled rise starts);
    above = λ lt. absurd (omega (arith, e, lt));
  }

  pub place_older : (s n : ℕ) → n ≡ s - 1 → s ≤ length older → starts_by r rs.last.items ≡ false
      → ((p : Piece) → 0 < s → starts_by r (items_of (get_or older (s - 1) p)) ≡ true)
      → ((p : Piece) → s < length older → starts_by r (items_of (get_or older s p)) ≡ false)
      → IsPlaceFor rs r n
  place_older s n e le starts below above = subst (IsPlaceFor rs r) (sym e) (record {
    bound = omega (arith, le);
    below = at s le below;
    above = λ lt. above_next (lists_of older) rs.last.items r filled rise s (λ l. let less : s < length older = omega (arith, l, long) in ap (starts_by r) (list_at older s (some_of older s less) less) ∙ above (some_of older s less) less) starts (omega (arith, le, long)) (omega (arith, lt, long));
  })
    where
      at : (s : ℕ) → s ≤ length older → ((p : Piece) → 0 < s → starts_by r (items_of (get_or older (s - 1) p)) ≡ true) → AllBelow r (joined (take (s - 1) (lists_of older)))
      at zero le h = All-nil (λ m. rev_cmp m.rev r ≡ Less)
      at (suc k) le h =
          let less : suc k - 1 < length older = omega (arith, le) in
          let p = some_of older (suc k - 1) less in
          below_at (lists_of older) rs.last.items r filled rise (suc k - 1) (omega (arith, less, long)) (ap (starts_by r) (list_at older (suc k - 1) p less) ∙ h p (omega arith))

-- ---- a list parted round the piece that a revision is in

pub record Parted (ns : List Node) (r : Rev) (piece : List Node) : Type 0 where
  pub before : List Node
  pub after : List Node
  pub parts : ns ≡ before ++ (piece ++ after)
  pub below : AllBelow r before
  pub above : AllAbove r after

module _ (rs : Rows) (r : Rev) (i : ℕ) (at : IsPlaceFor rs r i) where
  pub parted_older : i < length rs.older.items → Parted (nodes_of rs) r (get_or (lists_of rs.older.items) i [])
  parted_older lt = record {
    before = joined (take i (lists_of rs.older.items));
    after = joined (drop (suc i) (lists_of rs.older.items)) ++ rs.last.items;
    parts = whole_at (lists_of rs.older.items) rs.last.items i (omega (arith, lt, length-map rs.older.items items_of));
    below = at.below;
    above = at.above lt;
  }

  pub parted_last : length rs.older.items ≤ i → Parted (nodes_of rs) r rs.last.items
  parted_last le = record {
    before = joined (lists_of rs.older.items);
    after = [];
    parts = ap (λ ms. joined (lists_of rs.older.items) ++ ms) (sym (append-nil rs.last.items));
    below = subst (λ nss. AllBelow r (joined nss)) (take_all i (lists_of rs.older.items) (omega (arith, le, length-map rs.older.items items_of))) at.below;
    above = All-nil (λ m. rev_cmp r m.rev ≡ Less);
  }

module _ (ns : List Node) (r : Rev) (piece : List Node) (p : Parted ns r piece) where
  entries_parts : entries_of ns ≡ entries_of p.before ++ (entries_of piece ++ entries_of p.after)
  entries_parts = ap entries_of p.parts ∙ map-append entry_of p.before (piece ++ p.after) ∙ ap (λ es. entries_of p.before ++ es) (map-append entry_of piece p.after)

  pub rows_parts : rows_of ns ≡ rows_of p.before ++ (rows_of piece ++ rows_of p.after)
  rows_parts = ap rows_of p.parts ∙ map-append row_of p.before (piece ++ p.after) ∙ ap (λ es. rows_of p.before ++ es) (map-append row_of piece p.after)

  pub found_in : find rev_cmp r (rows_of ns) ≡ find rev_cmp r (rows_of piece)
  found_in =
      ap (find rev_cmp r) rows_parts
      ∙ find-over r (rows_of p.before) (rows_of piece ++ rows_of p.after) (All-map (λ e. rev_cmp e.0 r ≡ Less) row_of p.before p.below)
      ∙ find-under r (rows_of piece) (rows_of p.after) (All-map (λ e. rev_cmp r e.0 ≡ Less) row_of p.after p.above)

  pub sorted_in : IsSorted ns → IsSorted piece
  sorted_in h = sorted_front (entries_of piece) (entries_of p.after) (sorted_rest (entries_of p.before) (entries_of piece ++ entries_of p.after) (subst (λ es. T (is_sorted rev_cmp es)) entries_parts h))

  pub listed_in : (n : Node) → Contains piece n → Contains ns n
  listed_in n c = subst (λ ms. Contains ms n) (sym p.parts) (Contains-append_right p.before (piece ++ p.after) n (Contains-append_left piece p.after n c))

  pub put_in : (v : Revision × Bool) → put rev_cmp r v (rows_of ns) ≡ rows_of p.before ++ (put rev_cmp r v (rows_of piece) ++ rows_of p.after)
  put_in v =
      ap (put rev_cmp r v) rows_parts
      ∙ put-over r v (rows_of p.before) (rows_of piece ++ rows_of p.after) (All-map (λ e. rev_cmp e.0 r ≡ Less) row_of p.before p.below)
      ∙ ap (λ es. rows_of p.before ++ es) (put-under r v (rows_of piece) (rows_of p.after) (All-map (λ e. rev_cmp r e.0 ≡ Less) row_of p.after p.above))

-- ---- pieces that change

pub joined-append : (mss nss : List (List Node)) → joined (mss ++ nss) ≡ joined mss ++ joined nss
joined-append [] nss = refl
joined-append (ms ∷ mss) nss = ap (λ ns. ms ++ ns) (joined-append mss nss) ∙ sym (append_assoc ms (joined mss) (joined nss))

-- the first nodes of the last piece become a piece
pub settled : (ps : List Piece) (p : Piece) (ns : List Node) (k : ℕ) (rest : List Node) → items_of p ≡ take k ns → rest ≡ drop k ns → joined (lists_of (ps ++ p ∷ [])) ++ rest ≡ joined (lists_of ps) ++ ns
settled ps p ns k rest e f =
    ap (λ nss. joined nss ++ rest) (map-append items_of ps (p ∷ [])) ∙ ap (λ ms. ms ++ rest) (joined-append (lists_of ps) (items_of p ∷ []) ∙ ap (λ ms. joined (lists_of ps) ++ ms) (append-nil (items_of p)))
    ∙ append_assoc (joined (lists_of ps)) (items_of p) rest ∙ ap (λ ms. joined (lists_of ps) ++ ms) ((λ i. e i ++ f i) ∙ take-append-drop k ns)

pub filled_more : (ps : List Piece) (p : Piece) → AreFilled (lists_of ps) → 0 < length (items_of p) → AreFilled (lists_of (ps ++ p ∷ []))
filled_more ps p h some = subst AreFilled (sym (map-append items_of ps (p ∷ []))) (All-push (λ ns. 0 < length ns) (lists_of ps) (items_of p) h some)

joined_set : (nss : List (List Node)) (i : ℕ) (ns : List Node) → i < length nss → joined (set nss i ns) ≡ joined (take i nss) ++ (ns ++ joined (drop (suc i) nss))
joined_set [] i ns lt = absurd (omega arith)
joined_set (ms ∷ mss) zero ns lt = refl
joined_set (ms ∷ mss) (suc i) ns lt = ap (λ ks. ms ++ ks) (joined_set mss i ns (omega arith)) ∙ sym (append_assoc ms (joined (take i mss)) (ns ++ joined (drop (suc i) mss)))

joined_part : (nss : List (List Node)) (i : ℕ) (low high : List Node) → i < length nss → joined (set (insert nss (suc i) high) i low) ≡ joined (take i nss) ++ ((low ++ high) ++ joined (drop (suc i) nss))
joined_part [] i low high lt = absurd (omega arith)
joined_part (ms ∷ mss) zero low high lt = sym (append_assoc low high (joined mss))
joined_part (ms ∷ mss) (suc i) low high lt = ap (λ ks. ms ++ ks) (joined_part mss i low high (omega arith)) ∙ sym (append_assoc ms (joined (take i mss)) ((low ++ high) ++ joined (drop (suc i) mss)))

-- a piece in the place of another
pub replaced : (ps : List Piece) (i : ℕ) (p : Piece) (ns : List Node) → i < length ps → items_of p ≡ ns → joined (lists_of (set ps i p)) ≡ joined (take i (lists_of ps)) ++ (ns ++ joined (drop (suc i) (lists_of ps)))
replaced ps i p ns lt e =
    ap joined (map-set items_of ps i p) ∙ joined_set (lists_of ps) i (items_of p) (omega (arith, lt, length-map ps items_of)) ∙ ap (λ ms. joined (take i (lists_of ps)) ++ (ms ++ joined (drop (suc i) (lists_of ps)))) e

pub filled_set : (ps : List Piece) (i : ℕ) (p : Piece) → AreFilled (lists_of ps) → 0 < length (items_of p) → AreFilled (lists_of (set ps i p))
filled_set ps i p h some = subst AreFilled (sym (map-set items_of ps i p)) (All-set (λ ns. 0 < length ns) (lists_of ps) i (items_of p) some h)

lists-insert : (ps : List Piece) (i : ℕ) (p : Piece) → lists_of (insert ps i p) ≡ insert (lists_of ps) i (items_of p)
lists-insert ps i p = map-append items_of (take i ps) (p ∷ drop i ps) ∙ (λ k. sym (take-map items_of i ps) k ++ (items_of p ∷ sym (drop-map items_of i ps) k))

-- a piece parted in two
pub parted_in_two : (ps : List Piece) (i j : ℕ) (low high : Piece) (ns : List Node) (k : ℕ) → i < length ps → j ≡ i + 1 → items_of low ≡ take k ns → items_of high ≡ drop k ns
    → joined (lists_of (set (insert ps j high) i low)) ≡ joined (take i (lists_of ps)) ++ (ns ++ joined (drop (suc i) (lists_of ps)))
parted_in_two ps i j low high ns k lt next e f =
    let same : j ≡ suc i = omega (arith, next) in
    ap joined (map-set items_of (insert ps j high) i low ∙ ap (λ nss. set nss i (items_of low)) (lists-insert ps j high ∙ ap (λ n. insert (lists_of ps) n (items_of high)) same))
    ∙ joined_part (lists_of ps) i (items_of low) (items_of high) (omega (arith, lt, length-map ps items_of))
    ∙ ap (λ ms. joined (take i (lists_of ps)) ++ (ms ++ joined (drop (suc i) (lists_of ps)))) ((λ n. e n ++ f n) ∙ take-append-drop k ns)

pub filled_two : (ps : List Piece) (i j : ℕ) (low high : Piece) → AreFilled (lists_of ps) → 0 < length (items_of low) → 0 < length (items_of high) → AreFilled (lists_of (set (insert ps j high) i low))
filled_two ps i j low high h some more =
    filled_set (insert ps j high) i low (subst AreFilled (sym (lists-insert ps j high)) (All-append (λ ns. 0 < length ns) (take j (lists_of ps)) (items_of high ∷ drop j (lists_of ps))
    (All-take (λ ns. 0 < length ns) j (lists_of ps) h) (All-cons (λ ns. 0 < length ns) (items_of high) (drop j (lists_of ps)) more (All-drop (λ ns. 0 < length ns) j (lists_of ps) h)))) some

pub take_some : (k : ℕ) (ns : List Node) → 0 < k → 0 < length ns → 0 < length (take k ns)
take_some k ns some more = omega (arith, length-take k ns, some, more)

pub drop_some : (k : ℕ) (ns : List Node) → k < length ns → 0 < length (drop k ns)
drop_some k ns lt = omega (arith, length-drop k ns, lt)

-- ---- puts

-- what holds of an answer that is no fault
pub if_ok : {X E : Type 0} (r : Result X E) {P Q : Type 0} → (P → Q) → IfOk r (λ _. P) → IfOk r (λ _. Q)
if_ok (Ok x) f h = f h
if_ok (Err e) f h = tt

pub put_older : (rs : Rows) (r : Rev) (i : ℕ) (v : Revision × Bool) (ps : List Piece) → (at : IsPlaceFor rs r i) → i < length rs.older.items
    → rows_of (joined (lists_of ps)) ≡ rows_of (joined (take i (lists_of rs.older.items))) ++ (put rev_cmp r v (rows_of (get_or (lists_of rs.older.items) i [])) ++ rows_of (joined (drop (suc i) (lists_of rs.older.items))))
    → rows_of (joined (lists_of ps) ++ rs.last.items) ≡ put rev_cmp r v (rows_of (nodes_of rs))
unfolding parted_older
put_older rs r i v ps at lt e =
    let nss = lists_of rs.older.items in
    let A = rows_of (joined (take i nss)) in
    let B = put rev_cmp r v (rows_of (get_or nss i [])) in
    let C = rows_of (joined (drop (suc i) nss)) in
    let D = rows_of rs.last.items in
    map-append row_of (joined (lists_of ps)) rs.last.items ∙ ap (λ xs. xs ++ D) e ∙ append_assoc A (B ++ C) D ∙ ap (λ xs. A ++ xs) (append_assoc B C D ∙ ap (λ xs. B ++ xs) (sym (map-append row_of (joined (drop (suc i) nss)) rs.last.items)))
    ∙ sym (put_in (nodes_of rs) r (get_or nss i []) (parted_older rs r i at lt) v)

pub put_last : (rs : Rows) (r : Rev) (i : ℕ) (v : Revision × Bool) (last all : List Node) → (at : IsPlaceFor rs r i) → length rs.older.items ≤ i
    → rows_of last ≡ put rev_cmp r v (rows_of rs.last.items) → all ≡ joined (lists_of rs.older.items) ++ last → rows_of all ≡ put rev_cmp r v (rows_of (nodes_of rs))
unfolding parted_last
put_last rs r i v last all at le e f =
    let A = rows_of (joined (lists_of rs.older.items)) in
    ap rows_of f ∙ map-append row_of (joined (lists_of rs.older.items)) last ∙ ap (λ xs. A ++ xs) (e ∙ sym (append-nil (put rev_cmp r v (rows_of rs.last.items))))
    ∙ sym (put_in (nodes_of rs) r rs.last.items (parted_last rs r i at le) v)

pub put_rows : (i : ℕ) (nss : List (List Node)) (ns all : List Node) (xs : List Row) → rows_of ns ≡ xs → all ≡ joined (take i nss) ++ (ns ++ joined (drop (suc i) nss)) → rows_of all ≡ rows_of (joined (take i nss)) ++ (xs ++ rows_of (joined (drop (suc i) nss)))
put_rows i nss ns all xs e f =
    ap rows_of f ∙ map-append row_of (joined (take i nss)) (ns ++ joined (drop (suc i) nss))
    ∙ ap (λ ys. rows_of (joined (take i nss)) ++ ys) (map-append row_of ns (joined (drop (suc i) nss)) ∙ ap (λ ys. ys ++ rows_of (joined (drop (suc i) nss))) e)

pub piece_filled : (ps : List Piece) (i : ℕ) (p : Piece) → AreFilled (lists_of ps) → i < length ps → p ≡ get_or ps i p → 0 < length (items_of p)
piece_filled ps i p h lt is = subst (λ ns. 0 < length ns) (list_read ps i p lt is) (h i [] (omega (arith, lt, length-map ps items_of)))
