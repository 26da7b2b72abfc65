-- What a binary search finds among the entries of a map, which ascend.
use Rattle.std.proofs.Common.{◌≡◌, ℕ, ◌<◌, ◌≤◌, length, get_or, Option, Some, None, Ok, Err, Less, Equal, Greater, Ordering, refl, sym, ap, ◌∙◌, subst, ⊎_elim, arith}
use Rattle.std.proofs.lemmas.Bool.{cases_lt}
use Rattle.std.specs.Prelude.{AllPairs, Contains, slice_index_or}
use Rattle.std.specs.Cmp.{tied_itself}
use Rattle.std.specs.Ordering.{ordering_index}
use Rattle.std.specs.List.Sorted.{IsSearchInRange, IsBinarySearchResult, IsNonDecreasingBy}
use Rattle.model.specs.Map.{Map, Order, entries, get}
use Rattle.model.proofs.MapLaws.{Contains-entries, IsRising-keys}
use Rattle.model.proofs.RisingLaws.{AllPairs-map}

module _ (O : Order) {X : Type 0} (m : Map O X) (k : O.key) where
  abbrev Entry : Type 0
  Entry = O.key × X

  abbrev compared : Entry → Ordering
  compared e = O.cmp e.0 k

  lower : (a b : O.key) → O.cmp a b ≡ Less → ordering_index (O.cmp a k) ≤ ordering_index (O.cmp b k)
  lower a b less = at (O.cmp b k) refl
    where
      most : (o : Ordering) → ordering_index o ≤ 2
      most Less = omega arith
      most Equal = omega arith
      most Greater = omega arith

      at : (o : Ordering) → O.cmp b k ≡ o → ordering_index (O.cmp a k) ≤ ordering_index o
      at Less e = omega (arith, ap ordering_index (O.total.trans a b k less e))
      at Equal e = omega (arith, ap ordering_index (subst (λ q. O.cmp a q ≡ Less) (O.exact b k e) less))
      at Greater e = most (O.cmp a k)

  rises : AllPairs (λ (a b : Entry). O.cmp a.0 b.0 ≡ Less) (entries m)
  rises = AllPairs-map (λ a b. O.cmp a b ≡ Less) (λ (e : Entry). e.0) (entries m) (IsRising-keys O m)

  nondecreasing : IsNonDecreasingBy (λ e. ordering_index (compared e)) (entries m)
  nondecreasing i j d le lt = by_place (rises i j d)
    where
      index : ℕ → ℕ
      index n = ordering_index (compared (slice_index_or (entries m) n d))

      by_place : (i < j → j < length (entries m) → O.cmp (get_or (entries m) i d).0 (get_or (entries m) j d).0 ≡ Less) → index i ≤ index j
      by_place less = grind (arith, λ (n : i < j). lower (get_or (entries m) i d).0 (get_or (entries m) j d).0 (less n lt), λ (e : i ≡ j). ap index e)

  -- the entry at the place that is found is the key's
  pub search_found : (i : ℕ) (e : Entry) → IsSearchInRange (Ok i) (length (entries m)) → IsBinarySearchResult compared (entries m) (Ok i) → e ≡ get_or (entries m) i e → get m k ≡ Some e.1
  search_found i e lt equal is =
      let c : Contains (entries m) e = (i, lt, sym is) in
      let key : e.0 ≡ k = O.exact e.0 k (ap compared is ∙ equal e) in
      subst (λ q. get m q ≡ Some e.1) key ((Contains-entries O m e.0 e.1).0 c)

  -- and where none is found there is none
  pub search_missed : (i : ℕ) → IsSearchInRange (Err i) (length (entries m)) → IsBinarySearchResult compared (entries m) (Err i) → get m k ≡ None
  search_missed i le parted = by_entry (get m k) refl
    where
      clash : (x : X) → Contains (entries m) (k, x) → ⊥
      clash x c = ⊎_elim
          (λ less. let before = (parted nondecreasing).0 c.0 (k, x) (omega arith) less in cc (here, before))
          (λ le. let after = (parted nondecreasing).1 c.0 (k, x) le c.1 in cc (here, after))
          (cases_lt c.0 i)
        where
          here : compared (slice_index_or (entries m) c.0 (k, x)) ≡ Equal
          here = ap compared c.2 ∙ tied_itself O.total k

      by_entry : (o : Option X) → get m k ≡ o → o ≡ None
      by_entry None e = refl
      by_entry (Some x) e = absurd (clash x ((Contains-entries O m k x).1 e))
