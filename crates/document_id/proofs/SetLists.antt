-- The keys of a set that was made of a list.
use Rattle.std.specs.Prelude.{◌≡◌, ◌↔◌, List, [], ◌∷◌, map, All, Contains, refl}
use Rattle.std.specs.List.{AllByRecursion}
use Rattle.std.specs.List.Sorted.{IsStrictlySortedBy}
use Rattle.std.specs.BTreeSet.{BTreeSet, IsFromIterResult}
use Rattle.std.specs.Cmp.{eq_by_cmp_equiv}
use Rattle.std.specs.declared.cmp.Ordering.TheVariants.{Less}
use Rattle.std.proofs.Common.{sym, ap, subst, ◌∙◌, arith}
use Rattle.std.proofs.lemmas.List.Elements.{All-nil, All-cons, All-weaker, All-contains, All-contains_itself}
use Rattle.std.proofs.lemmas.List.Kept.{AllPairs-cons}
use Rattle.std.proofs.lemmas.Map.Views.{btree_set_contains_iff, Contains-from_any, list_any-from_Contains}
use Rattle.model.specs.Map.{Order, IsRising, entries, from_list, same_key-equal}
use Rattle.model.proofs.MapLaws.{Contains-keys-from_list, IsRising-keys, same_rising}

module _ (O : Order) where
  all_above : (x : O.key) (xs : List O.key) → AllByRecursion (λ y. O.cmp x y ≡ Less) xs → All (λ y. O.cmp x y ≡ Less) xs
  all_above x [] h = All-nil _
  all_above x (y ∷ ys) h = All-cons (λ z. O.cmp x z ≡ Less) y ys h.0 (all_above x ys h.1)

  pub rising : (xs : List O.key) → IsStrictlySortedBy O.cmp xs → IsRising O xs
  unfolding IsStrictlySortedBy
  rising [] h = λ i j d less lt. absurd (omega arith)
  rising (x ∷ xs) h = AllPairs-cons (λ a b. O.cmp a b ≡ Less) x xs (all_above x xs h.0) (rising xs h.1)

  module _ (xs : List O.key) (n : BTreeSet O.key) (h : IsFromIterResult O.cmp xs n) where
    from_set : (q : O.key) → Contains n.keys q → Contains xs q
    from_set q c = Contains-from_any (same_key-equal O) q xs (sym (h.0 q) ∙ (btree_set_contains_iff O.total O.exact n q).1 c)

    in_set : (q : O.key) → Contains xs q → Contains n.keys q
    in_set q c = (btree_set_contains_iff O.total O.exact n q).0 (h.0 q ∙ list_any-from_Contains (eq_by_cmp_equiv O.total) q xs c)

    -- what holds of each that the set was made of
    pub All-keys : (P : O.key → Type 0) → All P xs → All P n.keys
    All-keys P all = All-weaker (Contains n.keys) P (λ q c. All-contains P xs q all (from_set q c)) n.keys (All-contains_itself n.keys)

    module _ {Y : Type 0} (f : O.key → Y) where
      own_keys : (ys : List O.key) → map (λ (e : O.key × Y). e.0) (map (λ y. (y, f y)) ys) ≡ ys
      own_keys [] = refl
      own_keys (y ∷ ys) = ap (λ zs. y ∷ zs) (own_keys ys)

      listed : (q : O.key) → Contains (map (λ (e : O.key × Y). e.0) (entries {O = O} (from_list (map (λ x. (x, f x)) xs)))) q ↔ Contains xs q
      listed q = subst (λ ys. Contains (map (λ (e : O.key × Y). e.0) (entries {O = O} (from_list (map (λ x. (x, f x)) xs)))) q ↔ Contains ys q) (own_keys xs) (Contains-keys-from_list O (map (λ x. (x, f x)) xs) q)

      -- they are those of a map that has something at each
      pub keys-listed : n.keys ≡ map (λ (e : O.key × Y). e.0) (entries {O = O} (from_list (map (λ x. (x, f x)) xs)))
      keys-listed = same_rising O n.keys _ (rising n.keys h.1) (IsRising-keys O (from_list (map (λ x. (x, f x)) xs))) (λ q. (λ c. (listed q).1 (from_set q c), λ c. in_set q ((listed q).0 c)))
