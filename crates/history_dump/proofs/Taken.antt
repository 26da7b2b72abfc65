-- One more element of a list.
use Rattle.std.proofs.Common.{◌≡◌, ℕ, zero, suc, List, [], ◌∷◌, ◌++◌, take, Some, ap}
use Rattle.std.specs.Prelude.{slice_get}

module _ {X : Type 0} where
  pub taken_one : (xs : List X) (n : ℕ) (x : X) → slice_get xs n ≡ Some x → take (suc n) xs ≡ take n xs ++ x ∷ []
  taken_one [] n x is = absurd (cc)
  taken_one (y ∷ xs) zero x is = let same : y ≡ x = cc in ap (λ (z : X). z ∷ []) same
  taken_one (y ∷ xs) (suc n) x is = ap (λ (zs : List X). y ∷ zs) (taken_one xs n x is)
