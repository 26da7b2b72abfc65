-- Each leaf is shown for the first of the revisions asked for that it descends from.
use Rattle.std.specs.Prelude.{◌≡◌, ℕ, zero, suc, ◌+◌, ◌<◌, ◌==◌, Bool, true, false, cond, not, ◌&&◌, ◌||◌, List, [], ◌∷◌, ◌++◌, map, filter, flat_map, length, get_or, take, All, AllPairs, Contains, refl}
use Rattle.std.specs.List.{list_any}
use Rattle.std.specs.Cmp.{both_ways, tied_itself}
use Rattle.std.proofs.Common.{append-nil, append_assoc, sym, ap, subst, ◌∙◌, arith}
use Rattle.std.specs.declared.cmp.Ordering.TheVariants.{Less}
use Rattle.std.proofs.Math.Dec.{eqb-suc-zero, eqb-zero-suc, eqb-suc-suc}
use Rattle.std.proofs.lemmas.Bool.{true≢false}
use Rattle.std.proofs.lemmas.Grind.{flat_map-append}
use Rattle.std.proofs.lemmas.List.{take_more}
use Rattle.std.proofs.lemmas.List.Concat.{flat_map-cons}
use Rattle.std.proofs.lemmas.List.Folds.{list_any-append}
use Rattle.std.proofs.lemmas.List.Elements.{All-head, All-tail, All-weaker, All-filter, All-contains_itself}
use Rattle.std.proofs.lemmas.List.Kept.{AllPairs-filter}
use Rattle.model.specs.Map.{same_key_itself}
use Rattle.model.specs.Revision.{Rev, revs, same_rev, same_rev-equal}
use Rattle.model.specs.Tree.{Tree, Leaf, IsForest, IsLeafOf, leaf_cmp, leaf_total, leaves, revs_of, among, path_of, knows, is_leaf, is_deleted}
use Rattle.model.specs.Documents.{latest_of, latest_or_itself}
use Rattle.model.proofs.AncestorLaws.{ancestor_known, slice_get-path_of, among-place}
use Rattle.model.proofs.LeafLaws.{Contains-leaves, IsRising-leaves}
use Rattle.model.proofs.ListLaws.{by_cases, Contains-filter, Contains-map, source_of, passing_of, any_passing, AllPairs-head, AllPairs-tail}
use Rattle.model.proofs.OnceLaws.{once_more}
use Rattle.model.proofs.TreeLaws.{leaf_known}
use Rattle.revision_tree.proofs.InOrder.{AllPairs-mapped}
use Rattle.changes_feed.specs.Latest.{first_place, first_above}
use Rattle.changes_feed.proofs.LeafLists.{latest-revs, latest_of-leaf}
use Rattle.changes_feed.proofs.SeenLists.{any-push, each_once-told, once_where, once_where-free}

-- ---- filters

module _ {X : Type 0} where
  filter-alike : (p q : X → Bool) (xs : List X) → All (λ x. p x ≡ q x) xs → filter p xs ≡ filter q xs
  filter-alike p q [] h = refl
  filter-alike p q (x ∷ xs) h =
      ap (λ b. cond b (x ∷ filter p xs) (filter p xs)) (All-head (λ y. p y ≡ q y) x xs h)
      ∙ ap (λ ys. cond (q x) (x ∷ ys) ys) (filter-alike p q xs (All-tail (λ y. p y ≡ q y) x xs h))

  filter-both : (p q : X → Bool) (xs : List X) → filter p (filter q xs) ≡ filter (λ x. q x && p x) xs
  filter-both p q [] = refl
  filter-both p q (x ∷ xs) = elim (q x) as (λ b. filter p (cond b (x ∷ filter q xs) (filter q xs)) ≡ cond (b && p x) (x ∷ filter (λ y. q y && p y) xs) (filter (λ y. q y && p y) xs)) [
    | true ↦ ap (λ ys. cond (p x) (x ∷ ys) ys) (filter-both p q xs)
    | false ↦ filter-both p q xs
  ]

module _ (F : Rev → ℕ) (k : ℕ) where
  -- the ones that have a number beside them
  pub chosen : (xs : List Rev) → map (λ (l : Rev × ℕ). l.0) (filter (λ (l : Rev × ℕ). l.1 == k) (map (λ r. (r, F r)) xs)) ≡ filter (λ r. F r == k) xs
  chosen [] = refl
  chosen (x ∷ xs) = elim (F x == k) as (λ b. map (λ (l : Rev × ℕ). l.0) (cond b ((x, F x) ∷ filter (λ (l : Rev × ℕ). l.1 == k) (map (λ r. (r, F r)) xs)) (filter (λ (l : Rev × ℕ). l.1 == k) (map (λ r. (r, F r)) xs))) ≡ cond b (x ∷ filter (λ r. F r == k) xs) (filter (λ r. F r == k) xs)) [
    | true ↦ ap (λ ys. x ∷ ys) (chosen xs)
    | false ↦ chosen xs
  ]

-- ---- one revision

pub latest_one : (t : Tree) (r : Rev) → filter (λ q. first_above (r ∷ []) t q == 0) (revs_of (leaves t)) ≡ latest_of t r
latest_one t r = (λ i. filter (λ q. is_first_one (among (path_of t q) r) i) (revs_of (leaves t))) ∙ latest-revs t r
  where
    is_first_one : (b : Bool) → (cond b 0 (suc 0) == 0) ≡ b
    is_first_one true = refl
    is_first_one false = refl

-- ---- the first place that passes

and_none : (b : Bool) → false ≡ (b && false)
and_none true = refl
and_none false = refl

is_first : (q : Rev → Bool) (xs : List Rev) (i : ℕ) (x : Rev) → i < length xs → x ≡ get_or xs i x → (first_place q xs == i) ≡ (q x && not (list_any q (take i xs)))
is_first q [] i x lt is = absurd (omega arith)
is_first q (y ∷ ys) zero x lt is = at (q y) ∙ ap (λ z. q z && true) (sym is)
  where
    at : (b : Bool) → (cond b 0 (suc (first_place q ys)) == 0) ≡ (b && true)
    at true = refl
    at false = eqb-suc-zero (first_place q ys)
is_first q (y ∷ ys) (suc i) x lt is = at (q y) (is_first q ys i x (omega (arith, lt)) is)
  where
    at : (b : Bool) → (first_place q ys == i) ≡ (q x && not (list_any q (take i ys))) → (cond b 0 (suc (first_place q ys)) == suc i) ≡ (q x && not (b || list_any q (take i ys)))
    at true h = eqb-zero-suc i ∙ and_none (q x)
    at false h = eqb-suc-suc (first_place q ys) i ∙ h

-- ---- lists that name each known one once

module _ (p : Rev → Bool) where
  abbrev Seen : List Rev → Rev → Bool
  Seen xs y = list_any (λ z. same_rev z y) xs

  counted_known : (xs : List Rev) (y : Rev) → p y ≡ true → list_any (λ z. p z && same_rev z y) xs ≡ Seen xs y
  counted_known [] y k = refl
  counted_known (z ∷ zs) y k = λ i. one (same_rev z y) refl i || counted_known zs y k i
    where
      one : (b : Bool) → same_rev z y ≡ b → (p z && same_rev z y) ≡ same_rev z y
      one true e = ap (λ c. c && same_rev z y) (ap p ((same_rev-equal z y).0 e) ∙ k)
      one false e = ap (λ c. p z && c) e ∙ sym (and_none (p z)) ∙ sym e

  -- the ones of a list in which none repeats another go behind, but for those that were there
  pub once_many : (xs ys : List Rev) → All (λ y. p y ≡ true) ys → AllPairs (λ a b. same_rev a b ≡ false) ys
      → once_where p (xs ++ ys) ≡ once_where p xs ++ filter (λ y. not (Seen xs y)) ys
  once_many xs [] k d = ap (once_where p) (append-nil xs) ∙ sym (append-nil (once_where p xs))
  once_many xs (y ∷ ys) k d =
      ap (once_where p) (sym (append_assoc xs (y ∷ []) ys))
      ∙ once_many (xs ++ y ∷ []) ys (All-tail (λ z. p z ≡ true) y ys k) (AllPairs-tail (λ a b. same_rev a b ≡ false) y ys d)
      ∙ (λ i. one i ++ others i)
      ∙ joined (Seen xs y)
    where
      A : List Rev
      A = once_where p xs

      B : List Rev
      B = filter (λ z. not (Seen xs z)) ys

      one : once_where p (xs ++ y ∷ []) ≡ once_more (λ a b. p a && same_rev a b) (Seen xs y) (once_where p xs) y
      one = each_once-told (λ a b. p a && same_rev a b) xs y (Seen xs y) (sym (counted_known xs y (All-head (λ z. p z ≡ true) y ys k)))

      same : (z : Rev) → same_rev y z ≡ false → not (Seen (xs ++ y ∷ []) z) ≡ not (Seen xs z)
      same z off = ap not (any-push (λ w. same_rev w z) xs y ∙ ap (λ b. cond b true (Seen xs z)) off)

      others : filter (λ z. not (Seen (xs ++ y ∷ []) z)) ys ≡ filter (λ z. not (Seen xs z)) ys
      others = filter-alike (λ z. not (Seen (xs ++ y ∷ []) z)) (λ z. not (Seen xs z)) ys
          (All-weaker (λ z. same_rev y z ≡ false) (λ z. not (Seen (xs ++ y ∷ []) z) ≡ not (Seen xs z)) same ys (AllPairs-head (λ a b. same_rev a b ≡ false) y ys d))

      joined : (b : Bool) → cond b (once_where p xs) (once_where p xs ++ y ∷ []) ++ filter (λ z. not (Seen xs z)) ys ≡ once_where p xs ++ cond (not b) (y ∷ filter (λ z. not (Seen xs z)) ys) (filter (λ z. not (Seen xs z)) ys)
      joined true = refl
      joined false = append_assoc (once_where p xs) (y ∷ []) (filter (λ z. not (Seen xs z)) ys)

-- ---- one more revision that is asked for

module _ (t : Tree) (asked : List Rev) (i : ℕ) (x : Rev) (lt : i < length asked) (is : x ≡ get_or asked i x) where
  flat_next : (ys : List Rev) → latest_or_itself t x ≡ ys → flat_map (latest_or_itself t) (take (i + 1) asked) ≡ flat_map (latest_or_itself t) (take i asked) ++ ys
  flat_next ys e =
      ap (flat_map (latest_or_itself t)) (take_more asked i x lt ∙ ap (λ y. take i asked ++ y ∷ []) (sym is))
      ∙ flat_map-append (latest_or_itself t) (take i asked) (x ∷ [])
      ∙ ap (λ zs. flat_map (latest_or_itself t) (take i asked) ++ zs) (flat_map-cons (latest_or_itself t) x [] ∙ append-nil (latest_or_itself t x) ∙ e)

  -- where it stands for itself alone
  pub next_itself : latest_or_itself t x ≡ x ∷ [] → flat_map (latest_or_itself t) (take i asked) ≡ take i asked → flat_map (latest_or_itself t) (take (i + 1) asked) ≡ take (i + 1) asked
  next_itself e h = flat_next (x ∷ []) e ∙ ap (λ ys. ys ++ x ∷ []) h ∙ ap (λ y. take i asked ++ y ∷ []) is ∙ sym (take_more asked i x lt)

-- ---- what was shown before

module _ (t : Tree) (f : IsForest t) where
  listed_leaf : (r : Rev) → Contains (revs_of (leaves t)) r → is_leaf t r ≡ true
  listed_leaf r c =
      let s = source_of (λ (l : Leaf). l.rev) (leaves t) r c in
      subst (λ q. is_leaf t q ≡ true) s.gives ((Contains-leaves t s.element).0 s.listed).leaf

  pub all_leaves : All (λ r. is_leaf t r ≡ true) (revs_of (leaves t))
  all_leaves = All-weaker (Contains (revs_of (leaves t))) (λ r. is_leaf t r ≡ true) listed_leaf (revs_of (leaves t)) (All-contains_itself (revs_of (leaves t)))

  pub all_known : All (λ r. knows t r ≡ true) (revs_of (leaves t))
  all_known = All-weaker (λ r. is_leaf t r ≡ true) (λ r. knows t r ≡ true) (λ r l. leaf_known t r l) (revs_of (leaves t)) all_leaves

  all_apart : AllPairs (λ a b. same_rev a b ≡ false) (revs_of (leaves t))
  all_apart = AllPairs-mapped (λ (l : Leaf). l.rev) (λ a b. leaf_cmp a b ≡ Less) (λ a b. same_rev a b ≡ false) (IsLeafOf t) apart (leaves t)
      (All-weaker (Contains (leaves t)) (IsLeafOf t) (λ l c. (Contains-leaves t l).0 c) (leaves t) (All-contains_itself (leaves t))) (IsRising-leaves t)
    where
      clash : (a b : Leaf) → IsLeafOf t a → IsLeafOf t b → leaf_cmp a b ≡ Less → a.rev ≡ b.rev → ⊥
      clash a b la lb less e =
          let flag : a.deleted ≡ b.deleted = sym la.flag ∙ ap (is_deleted t) e ∙ lb.flag in
          let same : a ≡ b = λ i. record { deleted = flag i; rev = e i } in
          let tied = tied_itself leaf_total a in
          let here = subst (λ l. leaf_cmp a l ≡ Less) (sym same) less in
          cc (tied, here)

      apart : (a b : Leaf) → IsLeafOf t a → IsLeafOf t b → leaf_cmp a b ≡ Less → same_rev a.rev b.rev ≡ false
      apart a b la lb less = by_cases (same_rev a.rev b.rev) (λ y. absurd (clash a b la lb less ((same_rev-equal a.rev b.rev).0 y))) (λ n. n)

  module _ (r : Rev) (leaf : is_leaf t r ≡ true) where
    r_listed : Contains (revs_of (leaves t)) r
    r_listed = Contains-map (λ (l : Leaf). l.rev) (leaves t) (record { deleted = is_deleted t r; rev = r }) ((Contains-leaves t (record { deleted = is_deleted t r; rev = r })).1 (record { leaf = leaf; flag = refl }))

    known_one : (a : Rev) → list_any (λ z. same_rev z r) (latest_of t a) ≡ among (path_of t r) a
    known_one a = ap (list_any (λ z. same_rev z r)) (sym (latest-revs t a)) ∙ both_ways _ _ to from
      where
        to : list_any (λ z. same_rev z r) (filter (λ q. among (path_of t q) a) (revs_of (leaves t))) ≡ true → among (path_of t r) a ≡ true
        to h =
            let s = passing_of (λ z. same_rev z r) (filter (λ q. among (path_of t q) a) (revs_of (leaves t))) h in
            subst (λ q. among (path_of t q) a ≡ true) ((same_rev-equal s.element r).0 s.passes) ((Contains-filter (λ q. among (path_of t q) a) (revs_of (leaves t)) s.element).0 s.listed).1

        from : among (path_of t r) a ≡ true → list_any (λ z. same_rev z r) (filter (λ q. among (path_of t q) a) (revs_of (leaves t))) ≡ true
        from h = any_passing (λ z. same_rev z r) (filter (λ q. among (path_of t q) a) (revs_of (leaves t))) r ((Contains-filter (λ q. among (path_of t q) a) (revs_of (leaves t)) r).1 (r_listed, h)) (same_key_itself revs r)

    unknown_one : (a : Rev) → knows t a ≡ false → list_any (λ z. same_rev z r) (a ∷ []) ≡ among (path_of t r) a
    unknown_one a u = ap (λ b. b || false) left ∙ sym right
      where
        left : same_rev a r ≡ false
        left = by_cases (same_rev a r) (λ y. absurd (true≢false (sym (ap (knows t) ((same_rev-equal a r).0 y) ∙ leaf_known t r leaf) ∙ u))) (λ n. n)

        on_path : among (path_of t r) a ≡ true → knows t a ≡ true
        on_path y =
            let s = (among-place (path_of t r) a).0 y in
            (ancestor_known t f s.0 r a (leaf_known t r leaf) (sym (slice_get-path_of t f r s.0 (leaf_known t r leaf)) ∙ s.1)).0

        right : among (path_of t r) a ≡ false
        right = by_cases (among (path_of t r) a) (λ y. absurd (true≢false (sym (on_path y) ∙ u))) (λ n. n)

    of_one : (a : Rev) → list_any (λ z. same_rev z r) (latest_or_itself t a) ≡ among (path_of t r) a
    of_one a = by_cases (knows t a)
        (λ k. ap (λ b. list_any (λ z. same_rev z r) (cond b (latest_of t a) (a ∷ []))) k ∙ known_one a)
        (λ u. ap (λ b. list_any (λ z. same_rev z r) (cond b (latest_of t a) (a ∷ []))) u ∙ unknown_one a u)

    seen_before : (rs : List Rev) → list_any (λ z. same_rev z r) (flat_map (latest_or_itself t) rs) ≡ list_any (λ a. among (path_of t r) a) rs
    seen_before [] = refl
    seen_before (a ∷ rs) =
        ap (list_any (λ z. same_rev z r)) (flat_map-cons (latest_or_itself t) a rs)
        ∙ list_any-append (λ z. same_rev z r) (latest_or_itself t a) (flat_map (latest_or_itself t) rs)
        ∙ (λ i. of_one a i || seen_before rs i)

  module _ (asked : List Rev) (i : ℕ) (x : Rev) (lt : i < length asked) (is : x ≡ get_or asked i x) where
    abbrev before : List Rev
    before = flat_map (latest_or_itself t) (take i asked)

    abbrev has : Rev → Bool
    has q = among (path_of t q) x

    shown : filter (λ y. not (Seen (knows t) before y)) (filter has (revs_of (leaves t))) ≡ filter (λ r. first_above asked t r == i) (revs_of (leaves t))
    shown =
        filter-both (λ y. not (Seen (knows t) before y)) has (revs_of (leaves t))
        ∙ filter-alike (λ r. has r && not (Seen (knows t) before r)) (λ r. first_above asked t r == i) (revs_of (leaves t))
        (All-weaker (λ r. is_leaf t r ≡ true) (λ r. (has r && not (Seen (knows t) before r)) ≡ (first_above asked t r == i))
        (λ r l. ap (λ b. has r && not b) (seen_before r l (take i asked)) ∙ sym (is_first (λ a. among (path_of t r) a) asked i x lt is)) (revs_of (leaves t)) all_leaves)

    pub next_known : knows t x ≡ true → once_where (knows t) (flat_map (latest_or_itself t) (take (i + 1) asked)) ≡ once_where (knows t) (flat_map (latest_or_itself t) (take i asked)) ++ filter (λ r. first_above asked t r == i) (revs_of (leaves t))
    next_known k =
        ap (once_where (knows t)) (flat_next t asked i x lt is (filter has (revs_of (leaves t))) (ap (λ b. cond b (latest_of t x) (x ∷ [])) k ∙ sym (latest-revs t x)))
        ∙ once_many (knows t) before (filter has (revs_of (leaves t))) (All-filter has (λ r. knows t r ≡ true) (revs_of (leaves t)) all_known) (AllPairs-filter (λ a b. same_rev a b ≡ false) has (revs_of (leaves t)) all_apart)
        ∙ ap (λ ys. once_where (knows t) before ++ ys) shown

    pub next_missing : knows t x ≡ false → once_where (knows t) (flat_map (latest_or_itself t) (take (i + 1) asked)) ≡ once_where (knows t) (flat_map (latest_or_itself t) (take i asked)) ++ x ∷ []
    next_missing u =
        ap (once_where (knows t)) (flat_next t asked i x lt is (x ∷ []) (ap (λ b. cond b (latest_of t x) (x ∷ [])) u)) ∙ once_where-free (knows t) before x u

    pub next_once : (ls : List (Rev × ℕ)) → ls ≡ map (λ l. (l, first_above asked t l)) (revs_of (leaves t))
        → once_where (knows t) (flat_map (latest_or_itself t) (take (i + 1) asked)) ≡ once_where (knows t) (flat_map (latest_or_itself t) (take i asked)) ++ cond (knows t x) (map (λ (l : Rev × ℕ). l.0) (filter (λ (l : Rev × ℕ). l.1 == i) ls)) (x ∷ [])
    next_once ls e = by_cases (knows t x)
        (λ k. next_known k ∙ ap (λ ys. once_where (knows t) before ++ ys) (sym (chosen (first_above asked t) i (revs_of (leaves t))) ∙ ap (λ zs. map (λ (l : Rev × ℕ). l.0) (filter (λ (l : Rev × ℕ). l.1 == i) zs)) (sym e) ∙ ap (λ b. cond b (map (λ (l : Rev × ℕ). l.0) (filter (λ (l : Rev × ℕ). l.1 == i) ls)) (x ∷ [])) (sym k)))
        (λ u. next_missing u ∙ ap (λ b. once_where (knows t) before ++ cond b (map (λ (l : Rev × ℕ). l.0) (filter (λ (l : Rev × ℕ). l.1 == i) ls)) (x ∷ [])) (sym u))

  pub leaf_itself : (x : Rev) → knows t x ≡ true → is_leaf t x ≡ true → latest_or_itself t x ≡ x ∷ []
  leaf_itself x k l = ap (λ b. cond b (latest_of t x) (x ∷ [])) k ∙ latest_of-leaf t f x l

  pub missing_itself : (x : Rev) → knows t x ≡ false → latest_or_itself t x ≡ x ∷ []
  missing_itself x u = ap (λ b. cond b (latest_of t x) (x ∷ [])) u
