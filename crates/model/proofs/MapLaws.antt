-- Laws of maps: entries against look-ups, and the order of keys.
use Rattle.std.specs.Prelude.{◌≡◌, ◌↔◌, true, false, cond, T, List, [], ◌∷◌, map, Option, Some, None, is_some, option_map, option_and_then, All, Contains, refl}
use Rattle.std.specs.List.{list_any}
use Rattle.std.specs.declared.cmp.Ordering.{Ordering}
use Rattle.std.specs.declared.cmp.Ordering.TheVariants.{Less, Equal, Greater}
use Rattle.std.specs.Ordering.{is_lt, is_eq, ordering_reverse}
use Rattle.std.specs.Cmp.{eq_by_cmp_equiv, both_ways}
use Rattle.std.specs.FinMap.Entries.{find, is_sorted, below_all, is_some-find}
use Rattle.std.proofs.Common.{get_or, sym, ap, subst, ◌∙◌, arith}
use Rattle.std.proofs.lemmas.Option.{none-some, same_Some}
use Rattle.std.proofs.lemmas.List.Elements.{All-nil, All-cons, All-head, All-tail, All-contains, All-map}
use Rattle.std.proofs.lemmas.List.Kept.{AllPairs-cons}
use Rattle.std.proofs.lemmas.Map.Views.{Contains-from_any, list_any-from_Contains}
use Rattle.model.specs.Truth.{both, first, second}
use Rattle.model.specs.Map.{Order, Map, IsRising, entries, keys, get, from_list, same_map, get-from_list, refine, get-refine, same_key, same_key-equal, same_key_itself}
use Rattle.model.proofs.ListLaws.{by_cases, Contains-tail, AllPairs-head, AllPairs-tail}

-- ---- tests with a proof

less : (o : Ordering) → T (is_lt o) → o ≡ Less
less Less p = refl
less Equal p = absurd p
less Greater p = absurd p

-- ---- entries and look-ups

abbrev Before : (O : Order) → O.key → O.key → Type 0
Before O a b = O.cmp a b ≡ Less

pub same_key-apart : (O : Order) (k q : O.key) → O.cmp k q ≡ Less → same_key O q k ≡ false
same_key-apart O k q e = ap is_eq (O.total.antisymm q k ∙ ap ordering_reverse e)

module _ (O : Order) {X : Type 0} where
  above_all : (k : O.key) (es : List (O.key × X)) → T (below_all O.cmp k es) → All (λ e. O.cmp k e.0 ≡ Less) es
  above_all k [] h = All-nil _
  above_all k (e ∷ es) h = All-cons (λ f. O.cmp k f.0 ≡ Less) e es (less _ (first _ _ h)) (above_all k es (second _ _ h))

  each_found : (es : List (O.key × X)) → T (is_sorted O.cmp es) → All (λ e. find O.cmp e.0 es ≡ Some e.1) es
  each_found [] s = All-nil _
  each_found (f ∷ es) s = All-cons (λ e. find O.cmp e.0 (f ∷ es) ≡ Some e.1) f es
      (ap (λ b. cond b (Some f.1) (find O.cmp f.0 es)) (same_key_itself O f.0))
      (λ i d lt.
      let e = get_or es i d in
      ap (λ b. cond b (Some f.1) (find O.cmp e.0 es)) (same_key-apart O f.0 e.0 (above_all f.0 es (first _ _ s) i d lt)) ∙ each_found es (second _ _ s) i d lt)

  pub found_listed : (es : List (O.key × X)) (k : O.key) (x : X) → find O.cmp k es ≡ Some x → Contains es (k, x)
  found_listed [] k x h = absurd (none-some x h)
  found_listed (e ∷ es) k x h = by_cases (same_key O k e.0)
      (λ t. (0, omega arith, λ i. (sym (same_key-equal O k e.0 t) i, same_Some e.1 x (sym (ap (λ b. cond b (Some e.1) (find O.cmp k es)) t) ∙ h) i)))
      (λ t. Contains-tail e es (k, x) (found_listed es k x (sym (ap (λ b. cond b (Some e.1) (find O.cmp k es)) t) ∙ h)))

  keys_ascend : (es : List (O.key × X)) → T (is_sorted O.cmp es) → IsRising O (map (λ e. e.0) es)
  keys_ascend [] s = λ i j d less lt. absurd (omega arith)
  keys_ascend (e ∷ es) s =
      AllPairs-cons (Before O) e.0 (map (λ e. e.0) es) (All-map (Before O e.0) (λ e. e.0) es (above_all e.0 es (first _ _ s))) (keys_ascend es (second _ _ s))

  module _ (m : Map O X) where
    pub Contains-entries : (k : O.key) (x : X) → Contains (entries m) (k, x) ↔ (get m k ≡ Some x)
    Contains-entries k x = (λ c. All-contains (λ e. get m e.0 ≡ Some e.1) (entries m) (k, x) (each_found m.list m.sorted) c, found_listed m.list k x)

    pub Contains-keys : (k : O.key) → Contains (keys m) k ↔ (is_some (get m k) ≡ true)
    Contains-keys k = (
      λ c. is_some-find O.cmp k m.list ∙ list_any-from_Contains (eq_by_cmp_equiv O.total) k (keys m) c,
      λ h. Contains-from_any (same_key-equal O) k (keys m) (sym (is_some-find O.cmp k m.list) ∙ h),
    )

    pub IsRising-keys : IsRising O (keys m)
    IsRising-keys = keys_ascend m.list m.sorted

-- each value changed, and none dropped
pub get-refine_all : {O : Order} {X Y : Type 0} (f : O.key → X → Y) (m : Map O X) (k : O.key) → get {O = O} (refine (λ q x. Some (f q x)) m) k ≡ option_map (f k) (get m k)
get-refine_all {X} {Y} f m k = get-refine (λ q x. Some (f q x)) m k ∙ same (get m k)
  where
    same : (o : Option X) → option_and_then (λ x. Some (f k x)) o ≡ option_map (f k) o
    same None = refl
    same (Some x) = refl

pub Contains-keys-from_list : (O : Order) {X : Type 0} (es : List (O.key × X)) (k : O.key) → Contains (keys {O = O} (from_list es)) k ↔ Contains (map (λ e. e.0) es) k
Contains-keys-from_list O es k =
    let listed : is_some (get {O = O} (from_list es) k) ≡ list_any (same_key O k) (map (λ e. e.0) es) = ap is_some (get-from_list O es k) ∙ is_some-find O.cmp k es in
    let c = Contains-keys O (from_list es) k in
    (λ h. Contains-from_any (same_key-equal O) k _ (sym listed ∙ c.0 h), λ h. c.1 (listed ∙ list_any-from_Contains (eq_by_cmp_equiv O.total) k _ h))

-- ---- a list in rising order is determined by its members

module _ (O : Order) where
  abbrev bare : List O.key → List (O.key × Unit {0})
  bare = map (λ k. (k, tt))

  keys-bare : (ks : List O.key) → map (λ e. e.0) (bare ks) ≡ ks
  keys-bare [] = refl
  keys-bare (k ∷ ks) = ap (λ ls. k ∷ ls) (keys-bare ks)

  below_bare : (k : O.key) (ks : List O.key) → All (λ q. O.cmp k q ≡ Less) ks → T (below_all O.cmp k (bare ks))
  below_bare k [] h = tt
  below_bare k (q ∷ ks) h =
      both _ _ (subst (λ o. T (is_lt o)) (sym (All-head (Before O k) q ks h)) tt) (below_bare k ks (All-tail (Before O k) q ks h))

  sorted_bare : (ks : List O.key) → IsRising O ks → T (is_sorted O.cmp (bare ks))
  sorted_bare [] h = tt
  sorted_bare (k ∷ ks) h = both _ _ (below_bare k ks (AllPairs-head (Before O) k ks h)) (sorted_bare ks (AllPairs-tail (Before O) k ks h))

  marked : (o : Option (Unit {0})) → o ≡ cond (is_some o) (Some tt) None
  marked None = refl
  marked (Some u) = refl

  bare_map : (ks : List O.key) → IsRising O ks → Map O (Unit {0})
  bare_map ks h = record { list = bare ks; sorted = sorted_bare ks h }

  Contains-bare : (ks : List O.key) (h : IsRising O ks) (q : O.key) → (is_some (get (bare_map ks h) q) ≡ true) ↔ Contains ks q
  unfolding bare_map
  Contains-bare ks h q =
      let e = Contains-keys O (bare_map ks h) q in
      (λ k. subst (λ ls. Contains ls q) (keys-bare ks) (e.1 k), λ c. e.0 (subst (λ ls. Contains ls q) (sym (keys-bare ks)) c))

  pub same_rising : (ks ls : List O.key) → IsRising O ks → IsRising O ls → ((q : O.key) → Contains ks q ↔ Contains ls q) → ks ≡ ls
  unfolding bare_map
  same_rising ks ls g h is =
      let m = bare_map ks g in
      let n = bare_map ls h in
      let to : (q : O.key) → is_some (get m q) ≡ true → is_some (get n q) ≡ true = λ q e. (Contains-bare ls h q).1 ((is q).0 ((Contains-bare ks g q).0 e)) in
      let from : (q : O.key) → is_some (get n q) ≡ true → is_some (get m q) ≡ true = λ q e. (Contains-bare ks g q).1 ((is q).1 ((Contains-bare ls h q).0 e)) in
      let same : m ≡ n = same_map m n (λ q. marked (get m q) ∙ ap (λ b. cond b (Some tt) None) (both_ways _ _ (to q) (from q)) ∙ sym (marked (get n q))) in
      sym (keys-bare ks) ∙ ap keys same ∙ keys-bare ls
