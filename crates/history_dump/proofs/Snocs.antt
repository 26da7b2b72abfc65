-- Lists by their last element.
use Rattle.std.proofs.Common.{◌≡◌, List, [], ◌∷◌, ◌++◌, refl}

module _ {X : Type 0} where
  pub snocs : (xs ys : List X) (x y : X) → xs ++ x ∷ [] ≡ ys ++ y ∷ [] → (xs ≡ ys) × (x ≡ y)
  snocs [] [] x y is = (refl, cc)
  snocs [] (z ∷ []) x y is = absurd (cc)
  snocs [] (z ∷ w ∷ ys) x y is = absurd (cc)
  snocs (z ∷ []) [] x y is = absurd (cc)
  snocs (z ∷ w ∷ xs) [] x y is = absurd (cc)
  snocs (w ∷ xs) (z ∷ ys) x y is =
      let head : w ≡ z = cc in
      let tails : xs ++ x ∷ [] ≡ ys ++ y ∷ [] = cc in
      let rest = snocs xs ys x y tails in
      let same : xs ≡ ys = rest.0 in
      (cc, rest.1)
