-- Entries in order on both sides of an entry e, and where a search for a key q goes on.
use Rattle.std.proofs.Common.{◌≡◌, ◌+◌, ◌≤◌, length, arith, Bool, true, false, cond, ◌&&◌, T, List, [], ◌∷◌, ◌++◌, filter, IsTrue, Some, refl, sym, ap, subst, ◌∙◌, is_some, append-nil}
use Rattle.std.specs.declared.cmp.Ordering.{Ordering}
use Rattle.std.specs.declared.cmp.Ordering.TheVariants.{Less, Equal, Greater}
use Rattle.std.specs.Ordering.{is_eq, is_lt, is_le, eq_by_cmp, ordering_reverse}
use Rattle.std.specs.Cmp.{IsTotalOrder, alike_right}
use Rattle.std.specs.BTreeMap.Comparable.{le_lt_trans}
use Rattle.std.specs.FinMap.Entries.{by_order, put, find, below_all, is_sorted, length-put}
use Rattle.cow_index.specs.Entries.{EachCompares}

both : (a b : Bool) → T a → T b → T (a && b)
both true b p q = q
both false b p q = p

first : (a b : Bool) → T (a && b) → T a
first true b p = tt
first false b p = p

second : (a b : Bool) → T (a && b) → T b
second true b p = p
second false b p = absurd p

less : (c : Ordering) → T (is_lt c) → c ≡ Less
less Less p = refl
less Equal p = absurd p
less Greater p = absurd p

-- x is below k, and k is at most q
greater : {K : Type 0} {R : K → K → Ordering} → IsTotalOrder R → (q x k : K) (c : Ordering) → R k q ≡ c → IsTrue (is_le c) → R x k ≡ Less → R q x ≡ Greater
greater o q x k Less e le h = o.antisymm q x ∙ ap ordering_reverse (o.trans x k q h e)
greater o q x k Equal e le h = o.antisymm q x ∙ ap ordering_reverse (sym (alike_right o k q x e) ∙ h)
greater o q x k Greater e le h = absurd (subst T (sym le) tt)

pub length_put_le : {K X : Type 0} {R : K → K → Ordering} → IsTotalOrder R → (q : K) (v : X) (es : List (K × X)) → T (is_sorted R es) → length (put R q v es) ≤ length es + 1
length_put_le {R = R} o q v es h =
    elim (is_some (find R q es)) as (λ b. length (put R q v es) ≡ cond b (length es) (length es + 1) → length (put R q v es) ≤ length es + 1) [
      | true ↦ λ e. omega arith
      | false ↦ λ e. omega arith
    ] (length-put R o q v es h)

module _ {K X : Type 0} (R : K → K → Ordering) where
  below_front : (k : K) (l m : List (K × X)) → T (below_all R k (l ++ m)) → T (below_all R k l)
  below_front k [] m h = tt
  below_front k (x ∷ l) m h = both _ _ (first _ _ h) (below_front k l m (second _ _ h))

  below_middle : (k : K) (l : List (K × X)) (e : K × X) (r : List (K × X)) → T (below_all R k (l ++ e ∷ r)) → R k e.0 ≡ Less
  below_middle k [] e r h = less _ (first _ _ h)
  below_middle k (x ∷ l) e r h = below_middle k l e r (second _ _ h)

  pub sorted_left : (l : List (K × X)) (e : K × X) (r : List (K × X)) → T (is_sorted R (l ++ e ∷ r)) → T (is_sorted R l)
  sorted_left [] e r h = tt
  sorted_left (x ∷ l) e r h = both _ _ (below_front x.0 l (e ∷ r) (first _ _ h)) (sorted_left l e r (second _ _ h))

  below_right : (l : List (K × X)) (e : K × X) (r : List (K × X)) → T (is_sorted R (l ++ e ∷ r)) → T (below_all R e.0 r)
  below_right [] e r h = first _ _ h
  below_right (x ∷ l) e r h = below_right l e r (second _ _ h)

  pub sorted_right : (l : List (K × X)) (e : K × X) (r : List (K × X)) → T (is_sorted R (l ++ e ∷ r)) → T (is_sorted R r)
  sorted_right [] e r h = second _ _ h
  sorted_right (x ∷ l) e r h = sorted_right l e r (second _ _ h)

  module _ (o : IsTotalOrder R) (q : K) where
    each_less : (k : K) (r : List (K × X)) → IsTrue (is_le (R q k)) → T (below_all R k r) → EachCompares R q Less r
    each_less k [] le h = tt
    each_less k (e ∷ r) le h = (le_lt_trans o q k e.0 le (less _ (first _ _ h)), each_less k r le (second _ _ h))

    each_greater : (l : List (K × X)) (e : K × X) (r : List (K × X)) → IsTrue (is_le (R e.0 q)) → T (is_sorted R (l ++ e ∷ r)) → EachCompares R q Greater l
    each_greater [] e r le h = tt
    each_greater (x ∷ l) e r le h = (greater o q x.0 e.0 _ refl le (below_middle x.0 l e r (first _ _ h)), each_greater l e r le (second _ _ h))

    -- how q compares with the keys of the side that it does not lie on
    pub right_less : (c : Ordering) (l : List (K × X)) (e : K × X) (r : List (K × X)) → R q e.0 ≡ c → IsTrue (is_le c) → T (is_sorted R (l ++ e ∷ r)) → EachCompares R q Less r
    right_less c l e r is le h = each_less e.0 r (subst (λ x. IsTrue (is_le x)) (sym is) le) (below_right l e r h)

    pub left_greater : (c : Ordering) (l : List (K × X)) (e : K × X) (r : List (K × X)) → R q e.0 ≡ c → IsTrue (is_le (ordering_reverse c)) → T (is_sorted R (l ++ e ∷ r)) → EachCompares R q Greater l
    left_greater c l e r is le h = each_greater l e r (subst (λ x. IsTrue (is_le x)) (sym (o.antisymm e.0 q ∙ ap ordering_reverse is)) le) h

  module _ (q : K) where
    pub find_before : (l m : List (K × X)) → EachCompares R q Less m → find R q (l ++ m) ≡ find R q l
    find_before [] [] h = refl
    find_before [] (e ∷ m) h = ap (λ c. cond (is_eq c) (Some e.1) (find R q m)) h.0 ∙ find_before [] m h.1
    find_before (x ∷ l) m h = ap (cond (eq_by_cmp R q x.0) (Some x.1)) (find_before l m h)

    pub find_past : (l m : List (K × X)) → EachCompares R q Greater l → find R q (l ++ m) ≡ find R q m
    find_past [] m h = refl
    find_past (x ∷ l) m h = ap (λ c. cond (is_eq c) (Some x.1) (find R q (l ++ m))) h.0 ∙ find_past l m h.1

    pub put_before : (v : X) (l : List (K × X)) (e : K × X) (r : List (K × X)) → R q e.0 ≡ Less → put R q v (l ++ e ∷ r) ≡ put R q v l ++ e ∷ r
    put_before v [] e r h = ap (λ c. by_order c ((q, v) ∷ e ∷ r) ((e.0, v) ∷ r) (e ∷ put R q v r)) h
    put_before v (x ∷ l) e r h =
        elim (R q x.0) as (λ c. by_order c ((q, v) ∷ x ∷ (l ++ e ∷ r)) ((x.0, v) ∷ (l ++ e ∷ r)) (x ∷ put R q v (l ++ e ∷ r)) ≡ by_order c ((q, v) ∷ x ∷ l) ((x.0, v) ∷ l) (x ∷ put R q v l) ++ e ∷ r) [
          | Less ↦ refl
          | Equal ↦ refl
          | Greater ↦ ap (λ t. x ∷ t) (put_before v l e r h)
        ]

    pub put_past : (v : X) (l m : List (K × X)) → EachCompares R q Greater l → put R q v (l ++ m) ≡ l ++ put R q v m
    put_past v [] m h = refl
    put_past v (x ∷ l) m h =
        ap (λ c. by_order c ((q, v) ∷ x ∷ (l ++ m)) ((x.0, v) ∷ (l ++ m)) (x ∷ put R q v (l ++ m))) h.0
        ∙ ap (λ t. x ∷ t) (put_past v l m h.1)

    pub put_behind : (v : X) (l : List (K × X)) → EachCompares R q Greater l → put R q v l ≡ l ++ (q, v) ∷ []
    put_behind v l h = ap (put R q v) (sym (append-nil l)) ∙ put_past v l [] h

    pub each_append : (c : Ordering) (l m : List (K × X)) → EachCompares R q c l → EachCompares R q c m → EachCompares R q c (l ++ m)
    each_append c [] m h i = i
    each_append c (x ∷ l) m h i = (h.0, each_append c l m h.1 i)

    -- the entries that stay by how q compares with their keys
    module _ (stays : Ordering → Bool) where
      abbrev pub kept : List (K × X) → List (K × X)
      kept = filter (λ e. stays (R q e.0))

      pub kept_alike : (c : Ordering) (m : List (K × X)) → EachCompares R q c m → kept m ≡ cond (stays c) m []
      kept_alike c [] h = elim (stays c) as (λ b. ◌≡◌ {A = List (K × X)} [] (cond b [] [])) [ true ↦ refl | false ↦ refl ]
      kept_alike c (e ∷ m) h =
          ap (λ x. cond (stays x) (e ∷ kept m) (kept m)) h.0 ∙ ap (λ t. cond (stays c) (e ∷ t) t) (kept_alike c m h.1)
          ∙ elim (stays c) as (λ b. cond b (e ∷ cond b m []) (cond b m []) ≡ cond b (e ∷ m) []) [ true ↦ refl | false ↦ refl ]
