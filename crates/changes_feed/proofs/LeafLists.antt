-- Lists of leaves, chosen by their revisions.
use Rattle.std.specs.Prelude.{◌≡◌, ℕ, zero, suc, Bool, true, false, cond, List, [], ◌∷◌, drop, filter, map, All, Contains, Option, Some, None, slice_get, option_and_then, refl}
use Rattle.std.specs.List.{drop-map}
use Rattle.std.proofs.Common.{ap, sym, subst, arith, ◌∙◌, ⊎_elim}
use Rattle.std.proofs.lemmas.List.Kept.{AllPairs-filter}
use Rattle.std.proofs.lemmas.Option.{none-some, same_Some}
use Rattle.std.proofs.lemmas.List.Elements.{All-head, All-tail, All-weaker, All-drop, All-contains_itself}
use Rattle.std.specs.declared.cmp.Ordering.TheVariants.{Less}
use Rattle.model.specs.Revision.{Rev}
use Rattle.model.specs.Map.{IsRising}
use Rattle.model.specs.Tree.{Tree, Leaf, IsForest, leaf_cmp, ranks, leaves, revs_of, among, path_of, parent_of, ancestor, knows, is_leaf, is_deleted}
use Rattle.model.specs.Documents.{losers, latest_of}
use Rattle.model.proofs.AncestorLaws.{ancestor-suc, slice_get-path_of, among-place}
use Rattle.model.proofs.LeafLaws.{Contains-leaves, IsRising-leaves}
use Rattle.model.proofs.ListLaws.{Contains-filter, Contains-head, Contains-cons_cases}
use Rattle.model.proofs.MapLaws.{same_rising}
use Rattle.model.proofs.TreeLaws.{leaf_known, no_parent_of_leaf}

module _ {X Y : Type 0} (f : X → Y) (q : Y → Bool) where
  -- a test of what is made of the elements
  pub filter-map : (xs : List X) → filter q (map f xs) ≡ map f (filter (λ x. q (f x)) xs)
  filter-map [] = refl
  filter-map (x ∷ xs) = elim (q (f x)) as (λ b. cond b (f x ∷ filter q (map f xs)) (filter q (map f xs)) ≡ map f (cond b (x ∷ filter (λ y. q (f y)) xs) (filter (λ y. q (f y)) xs))) [
    | true ↦ ap (λ ys. f x ∷ ys) (filter-map xs)
    | false ↦ filter-map xs
  ]

  -- a test that agrees with it
  pub filter-map_alike : (p : X → Bool) (xs : List X) → All (λ x. q (f x) ≡ p x) xs → filter q (map f xs) ≡ map f (filter p xs)
  filter-map_alike p [] h = refl
  filter-map_alike p (x ∷ xs) h =
      let rest = filter-map_alike p xs (All-tail (λ y. q (f y) ≡ p y) x xs h) in
      ap (λ b. cond b (f x ∷ filter q (map f xs)) (filter q (map f xs))) (All-head (λ y. q (f y) ≡ p y) x xs h)
      ∙ (elim (p x) as (λ b. cond b (f x ∷ filter q (map f xs)) (filter q (map f xs)) ≡ map f (cond b (x ∷ filter p xs) (filter p xs))) [
        | true ↦ ap (λ ys. f x ∷ ys) rest
        | false ↦ rest
      ])

module _ (t : Tree) where
  -- the flag of a leaf is that of its revision
  flags : (n : ℕ) → All (λ l. is_deleted t l.rev ≡ l.deleted) (drop n (leaves t))
  flags n = All-drop (λ (l : Leaf). is_deleted t l.rev ≡ l.deleted) n (leaves t)
      (All-weaker (Contains (leaves t)) (λ l. is_deleted t l.rev ≡ l.deleted) (λ l c. ((Contains-leaves t l).0 c).flag) (leaves t) (All-contains_itself (leaves t)))

  -- the losers whose flags pass a test
  pub losers_by : (p : Bool → Bool) → filter (λ r. p (is_deleted t r)) (drop 1 (revs_of (leaves t))) ≡ revs_of (filter (λ l. p l.deleted) (losers t))
  losers_by p =
      ap (filter (λ r. p (is_deleted t r))) (drop-map (λ (l : Leaf). l.rev) 1 (leaves t))
      ∙ filter-map_alike (λ (l : Leaf). l.rev) (λ r. p (is_deleted t r)) (λ l. p l.deleted) (losers t)
      (All-weaker (λ (l : Leaf). is_deleted t l.rev ≡ l.deleted) (λ l. p (is_deleted t l.rev) ≡ p l.deleted) (λ l e. ap p e) (losers t) (flags 1))

  pub latest-revs : (r : Rev) → filter (λ q. among (path_of t q) r) (revs_of (leaves t)) ≡ latest_of t r
  latest-revs r = filter-map (λ (l : Leaf). l.rev) (λ q. among (path_of t q) r) (leaves t)

module _ (t : Tree) (forest : IsForest t) (r : Rev) (leaf : is_leaf t r ≡ true) where
  no_child : (o : Option Rev) → option_and_then (parent_of t) o ≡ Some r → ⊥
  no_child None led = none-some r led
  no_child (Some c) led = no_parent_of_leaf t r c leaf led

  -- on whose path a leaf is, that is the leaf
  its_own : (q : Rev) → knows t q ≡ true → among (path_of t q) r ≡ true → q ≡ r
  its_own q known on = at ((among-place (path_of t q) r).0 on)
    where
      at : (n : ℕ) × (slice_get (path_of t q) n ≡ Some r) → q ≡ r
      at (zero, is) = same_Some q r (sym (slice_get-path_of t forest q zero known) ∙ is)
      at (suc n, is) = absurd (no_child (ancestor t n (Some q)) (sym (ancestor-suc t n (Some q)) ∙ sym (slice_get-path_of t forest q (suc n) known) ∙ is))

  on_its_own : among (path_of t r) r ≡ true
  on_its_own = (among-place (path_of t r) r).1 (0, slice_get-path_of t forest r 0 (leaf_known t r leaf))

  own : Leaf
  own = record { deleted = is_deleted t r; rev = r }

  -- no leaf but itself descends from a leaf
  pub latest_of-leaf : latest_of t r ≡ r ∷ []
  unfolding own
  latest_of-leaf = ap revs_of (same_rising ranks (filter has (leaves t)) (own ∷ []) (AllPairs-filter (λ a b. leaf_cmp a b ≡ Less) has (leaves t) (IsRising-leaves t)) alone (λ l. (to l, from l)))
    where
      has : Leaf → Bool
      has l = among (path_of t l.rev) r

      alone : IsRising ranks (own ∷ [])
      alone i j d lt within = absurd (omega (arith, lt, within))

      to : (l : Leaf) → Contains (filter has (leaves t)) l → Contains (own ∷ []) l
      to l c =
          let kept = (Contains-filter has (leaves t) l).0 c in
          let is = (Contains-leaves t l).0 kept.0 in
          let same = its_own l.rev (leaf_known t l.rev is.leaf) kept.1 in
          let flag : is_deleted t r ≡ l.deleted = ap (is_deleted t) (sym same) ∙ is.flag in
          subst (Contains (own ∷ [])) (λ i. record { deleted = flag i; rev = sym same i }) (Contains-head own [])

      from : (l : Leaf) → Contains (own ∷ []) l → Contains (filter has (leaves t)) l
      from l c = (Contains-filter has (leaves t) l).1 (⊎_elim (λ same. subst kept same own_kept) (λ none. absurd (empty none)) (Contains-cons_cases own [] l c))
        where
          kept : Leaf → Type 0
          kept l = Contains (leaves t) l × (has l ≡ true)

          own_kept : kept own
          own_kept = ((Contains-leaves t own).1 (record { leaf = leaf; flag = refl }), on_its_own)

          empty : Contains [] l → ⊥
          empty none = omega (arith, none.1)
