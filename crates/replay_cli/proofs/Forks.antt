-- Two ways to cut a list in front of an element.
use Rattle.std.proofs.Common.{◌≡◌, ◌⊎◌, inl, inr, suc, List, [], ◌∷◌, ◌++◌, length, refl, ap, sym}

module _ {X : Type 0} where
  -- one front goes on with the element that the other was cut at
  abbrev pub GoesOn : List X → X → List X → Type 0
  GoesOn longer x shorter = (more : List X) × (longer ≡ shorter ++ x ∷ more)

  longer : (y : X) (ls xs : List X) (x : X) (z : X) → y ≡ z → GoesOn ls x xs → GoesOn (y ∷ ls) x (z ∷ xs)
  longer y ls xs x z same (more, is) = (more, cc)

  pub forks : (xs : List X) (x : X) (more : List X) (ys : List X) (y : X) (others : List X) → xs ++ x ∷ more ≡ ys ++ y ∷ others
      → (length xs ≡ length ys) ⊎ (GoesOn ys x xs ⊎ GoesOn xs y ys)
  forks [] x more [] y others is = inl refl
  forks [] x more (z ∷ ys) y others is = let head : z ≡ x = cc in inr (inl (ys, ap (λ (w : X). w ∷ ys) head))
  forks (z ∷ xs) x more [] y others is = let head : z ≡ y = cc in inr (inr (xs, ap (λ (w : X). w ∷ xs) head))
  forks (w ∷ xs) x more (z ∷ ys) y others is =
      let head : w ≡ z = cc in
      let tails : xs ++ x ∷ more ≡ ys ++ y ∷ others = cc in
      elim (forks xs x more ys y others tails) [
        | inl same ↦ inl (ap suc same)
        | inr apart ↦ elim apart [
          | inl on ↦ inr (inl (longer z ys xs x w (sym head) on))
          | inr on ↦ inr (inr (longer w xs ys y z head on))
        ]
      ]
