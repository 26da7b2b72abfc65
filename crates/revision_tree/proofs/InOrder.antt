-- Lists of which each element is in order before all later ones.
use Rattle.std.specs.Prelude.{◌≡◌, List, [], ◌∷◌, ◌++◌, map, get_or, reverse, All, AllPairs, Contains}
use Rattle.std.proofs.Common.{sym, subst, ⊎_elim, arith}
use Rattle.std.proofs.lemmas.List.{reverse-append}
use Rattle.std.proofs.lemmas.List.Elements.{All-cons, All-nil, All-head, All-tail, All-append, All-map, All-weaker, All-contains, All-contains_itself, Contains-append_left, Contains-append_right, Contains-append_cases}
use Rattle.std.proofs.lemmas.List.Kept.{AllPairs-cons}
use Rattle.model.proofs.ListLaws.{AllPairs-head, AllPairs-tail, Contains-head, Contains-tail, Contains-cons_cases}

module _ {X : Type 0} where
  pub Contains-reverse : (xs : List X) (y : X) → Contains (reverse xs) y → Contains xs y
  Contains-reverse [] y c = absurd (omega (arith, c.1))
  Contains-reverse (x ∷ xs) y c = ⊎_elim
      (λ k. Contains-tail x xs y (Contains-reverse xs y k))
      (λ k. ⊎_elim (λ (e : x ≡ y). subst (Contains (x ∷ xs)) e (Contains-head x xs)) (λ n. absurd (omega (arith, n.1))) (Contains-cons_cases x [] y k))
      (Contains-append_cases (reverse xs) (x ∷ []) y (subst (λ l. Contains l y) (reverse-append (x ∷ []) xs) c))

  pub reversed-Contains : (xs : List X) (y : X) → Contains xs y → Contains (reverse xs) y
  reversed-Contains [] y c = absurd (omega (arith, c.1))
  reversed-Contains (x ∷ xs) y c = subst (λ l. Contains l y) (sym (reverse-append (x ∷ []) xs)) (⊎_elim
      (λ (e : x ≡ y). Contains-append_right (reverse xs) (x ∷ []) y (subst (Contains (x ∷ [])) e (Contains-head x [])))
      (λ k. Contains-append_left (reverse xs) (x ∷ []) y (reversed-Contains xs y k))
      (Contains-cons_cases x xs y c))

  pub All-reverse : (P : X → Type 0) (xs : List X) → All P xs → All P (reverse xs)
  All-reverse P xs h = All-weaker (Contains (reverse xs)) P (λ y c. All-contains P xs y h (Contains-reverse xs y c)) (reverse xs) (All-contains_itself (reverse xs))

  module _ (R : X → X → Type 0) where
    AllPairs-none : AllPairs R []
    AllPairs-none = λ i j d less lt. absurd (omega arith)

    pub AllPairs-append : (xs ys : List X) → AllPairs R xs → AllPairs R ys → All (λ x. All (R x) ys) xs → AllPairs R (xs ++ ys)
    AllPairs-append [] ys h k c = k
    AllPairs-append (x ∷ xs) ys h k c =
        AllPairs-cons R x (xs ++ ys) (All-append (R x) xs ys (AllPairs-head R x xs h) (All-head (λ x. All (R x) ys) x xs c))
        (AllPairs-append xs ys (AllPairs-tail R x xs h) k (All-tail (λ x. All (R x) ys) x xs c))

    pub AllPairs-one : (x : X) → AllPairs R (x ∷ [])
    AllPairs-one x = AllPairs-cons R x [] (All-nil (R x)) AllPairs-none

  pub AllPairs-reverse : (R : X → X → Type 0) (xs : List X) → AllPairs R xs → AllPairs (λ x y. R y x) (reverse xs)
  AllPairs-reverse R [] h = AllPairs-none (λ x y. R y x)
  AllPairs-reverse R (x ∷ xs) h =
      let S : X → X → Type 0 = λ x y. R y x in
      let last : All (λ y. All (S y) (x ∷ [])) (reverse xs) = All-weaker (R x) (λ y. All (S y) (x ∷ [])) (λ y k. All-cons (S y) x [] k (All-nil (S y))) (reverse xs) (All-reverse (R x) xs (AllPairs-head R x xs h)) in
      subst (AllPairs S) (sym (reverse-append (x ∷ []) xs)) (AllPairs-append S (reverse xs) (x ∷ []) (AllPairs-reverse R xs (AllPairs-tail R x xs h)) (AllPairs-one S x) last)

-- what holds of the elements of which P does
pub AllPairs-mapped : {X Y : Type 0} (f : X → Y) (S : X → X → Type 0) (R : Y → Y → Type 0) (P : X → Type 0) → ((x y : X) → P x → P y → S x y → R (f x) (f y))
    → (xs : List X) → All P xs → AllPairs S xs → AllPairs R (map f xs)
AllPairs-mapped f S R P g [] p h = AllPairs-none R
AllPairs-mapped f S R P g (x ∷ xs) p h = AllPairs-cons R (f x) (map f xs)
    (All-map (R (f x)) f xs (λ i d lt. g x (get_or xs i d) (All-head P x xs p) (All-tail P x xs p i d lt) (AllPairs-head S x xs h i d lt)))
    (AllPairs-mapped f S R P g xs (All-tail P x xs p) (AllPairs-tail S x xs h))
