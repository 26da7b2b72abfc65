-- Agreement of a path with a tree, from place to place.
use Rattle.std.specs.Prelude.{◌≡◌, ℕ, zero, suc, ◌-◌, ◌<◌, ◌≤◌, List, [], ◌∷◌, length, get_or, drop, ◌&&◌, true, refl}
use Rattle.std.proofs.Common.{arith, sub-one}
use Rattle.model.specs.Map.{empty}
use Rattle.model.specs.Revision.{Rev}
use Rattle.model.specs.Tree.{Tree, parent_of}
use Rattle.model.specs.TreeChange.{agrees, fits}

pub agrees_empty : (path : List Rev) → agrees empty path ≡ true
agrees_empty [] = refl
agrees_empty (r ∷ []) = refl
agrees_empty (r ∷ next ∷ rest) = agrees_empty (next ∷ rest)

agrees_pair : (t : Tree) (path : List Rev) (k : ℕ) (d e : Rev) → suc k < length path → agrees t (drop k path) ≡ (fits (parent_of t (get_or path k d)) (get_or path (suc k) e) && agrees t (drop (suc k) path))
agrees_pair t [] k d e lt = absurd (omega arith)
agrees_pair t (r ∷ []) k d e lt = absurd (omega arith)
agrees_pair t (r ∷ next ∷ rest) zero d e lt = refl
agrees_pair t (r ∷ next ∷ rest) (suc k) d e lt = agrees_pair t (next ∷ rest) k d e (omega arith)

pub agrees_at : (t : Tree) (path : List Rev) (i : ℕ) (d e : Rev) → 1 ≤ i → i < length path → agrees t (drop (i - 1) path) ≡ (fits (parent_of t (get_or path (i - 1) d)) (get_or path i e) && agrees t (drop i path))
agrees_at t path zero d e some lt = absurd (omega arith)
agrees_at t path (suc k) d e some lt = rw sub-one (agrees_pair t path k d e lt)

pub agrees_last : (t : Tree) (path : List Rev) (k : ℕ) → length path ≤ suc k → agrees t (drop k path) ≡ true
agrees_last t [] zero le = refl
agrees_last t [] (suc k) le = refl
agrees_last t (r ∷ []) zero le = refl
agrees_last t (r ∷ []) (suc k) le = agrees_last t [] k (omega arith)
agrees_last t (r ∷ next ∷ rest) zero le = absurd (omega arith)
agrees_last t (r ∷ next ∷ rest) (suc k) le = agrees_last t (next ∷ rest) k (omega arith)
