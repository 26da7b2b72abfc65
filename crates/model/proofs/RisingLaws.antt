-- Lists in the rising order of their numbers, from above a mark; the last number of some of them; and what is above a mark.
use Rattle.std.specs.Prelude.{◌≡◌, ℕ, zero, suc, ◌<◌, ◌≤◌, List, [], ◌∷◌, take, drop, map, get_or, filter, nat_lt, All, AllPairs, ⊤, refl}
use Rattle.std.proofs.Common.{sym, ap, subst, ◌∙◌, arith, ltb-true, lt-ltb, le-ltb}
use Rattle.std.proofs.lemmas.List.{get_or-map}
use Rattle.std.proofs.Math.ListN.{length-map}
use Rattle.std.proofs.lemmas.List.Elements.{All-head, All-tail}
use Rattle.model.proofs.ListLaws.{AllPairs-head, AllPairs-tail}
use Rattle.std.proofs.lemmas.Bool.{cond-true, cond-false, cond_both}
use Rattle.std.proofs.lemmas.Bool.Decides.{nat_tests}

pub AllPairs-map : {X Y : Type 0} (R : Y → Y → Type 0) (f : X → Y) (xs : List X) → AllPairs R (map f xs) → AllPairs (λ x y. R (f x) (f y)) xs
AllPairs-map R f xs h i j d less lt =
    subst (R (f (get_or xs i d))) (get_or-map f xs j d (f d) lt)
    (subst (λ y. R y (get_or (map f xs) j (f d))) (get_or-map f xs i d (f d) (omega arith)) (h i j (f d) less (omega (arith, length-map xs f))))

module _ {X : Type 0} (num : X → ℕ) where
  abbrev pub Rising : ℕ → List X → Type 0
  Rising low [] = ⊤
  Rising low (x ∷ xs) = (low < num x) × Rising (num x) xs

  abbrev pub last_number : ℕ → List X → ℕ
  last_number low [] = low
  last_number low (x ∷ xs) = last_number (num x) xs

  abbrev pub above : ℕ → List X → List X
  above mark xs = filter (λ x. nat_lt mark (num x)) xs

  pub Rising-lower : (a b : ℕ) (xs : List X) → a ≤ b → Rising b xs → Rising a xs
  Rising-lower a b [] le r = tt
  Rising-lower a b (x ∷ xs) le r = (omega (arith, le, r.0), r.1)

  above-all : (mark a : ℕ) (xs : List X) → mark ≤ a → Rising a xs → above mark xs ≡ xs
  above-all mark a [] le r = refl
  above-all mark a (x ∷ xs) le r = cond-true (nat_lt mark (num x)) _ _ (lt-ltb mark (num x) (omega (arith, le, r.0))) ∙ ap (λ ys. x ∷ ys) (above-all mark (num x) xs (omega (arith, le, r.0)) r.1)

  pub Rising-above : (mark a : ℕ) (xs : List X) → Rising a xs → Rising mark (above mark xs)
  Rising-above mark a [] r = tt
  Rising-above mark a (x ∷ xs) r = cond_both (nat_lt mark (num x)) _ _ (Rising mark)
      (λ t. let less = ltb-true mark (num x) t in (less, subst (Rising (num x)) (sym (above-all mark (num x) xs (omega (arith, less)) r.1)) r.1))
      (λ f. Rising-above mark (num x) xs r.1)

  -- a list in which each number is below all later ones
  pub Rising-pairs : (low : ℕ) (xs : List X) → All (λ x. low < num x) xs → AllPairs (λ x y. num x < num y) xs → Rising low xs
  Rising-pairs low [] h r = tt
  Rising-pairs low (x ∷ xs) h r = (All-head (λ y. low < num y) x xs h, Rising-pairs (num x) xs (AllPairs-head (λ y z. num y < num z) x xs r) (AllPairs-tail (λ y z. num y < num z) x xs r))

  pub last_number-le : (low n : ℕ) (xs : List X) → Rising low xs → low ≤ last_number low (take n xs)
  last_number-le low zero xs r = omega arith
  last_number-le low (suc n) [] r = omega arith
  last_number-le low (suc n) (x ∷ xs) r = omega (arith, r.0, last_number-le (num x) n xs r.1)

  pub last_number-most : (low high n : ℕ) (xs : List X) → low ≤ high → All (λ x. num x ≤ high) xs → last_number low (take n xs) ≤ high
  last_number-most low high zero xs le h = le
  last_number-most low high (suc n) [] le h = le
  last_number-most low high (suc n) (x ∷ xs) le h = last_number-most (num x) high n xs (All-head (λ y. num y ≤ high) x xs h) (All-tail (λ y. num y ≤ high) x xs h)

  -- above the last of the first n are the others
  pub above-last_number : (low n : ℕ) (xs : List X) → Rising low xs → above (last_number low (take n xs)) xs ≡ drop n xs
  above-last_number low zero xs r = above-all low low xs (omega arith) r
  above-last_number low (suc n) [] r = refl
  above-last_number low (suc n) (x ∷ xs) r = cond-false (nat_lt (last_number (num x) (take n xs)) (num x)) _ _ (le-ltb _ (num x) (last_number-le (num x) n xs r.1)) ∙ above-last_number (num x) n xs r.1

  pub above-above : (low mark : ℕ) (xs : List X) → low ≤ mark → above mark (above low xs) ≡ above mark xs
  above-above low mark [] le = refl
  above-above low mark (x ∷ xs) le = grind (arith, nat_tests, above-above low mark xs le)
