-- The trees that a walk comes back to, the newest first, and what it has yet to yield.
use Rattle.std.specs.Prelude.{◌≡◌, ℕ, zero, suc, ◌+◌, ◌*◌, ◌^◌, ◌<◌, ◌≤◌, List, [], ◌∷◌, ◌++◌, length, take, reverse, Option, Some, None}
use Rattle.std.specs.Borrow.{Bor}
use Rattle.shared_list.specs.declared.values.TheConstants.{MAX_PLACES}
use Rattle.shared_list.specs.declared.values.Path.{Path}

module _ {T : Type 0} where
  -- the places in use
  abbrev pub held : Path T → List (Option (Bor (List T) × ℕ))
  held p = take p.depth p.places

  -- what a tree at so many levels has yet to yield: with no level, the value at its root
  abbrev pub due : List T → ℕ → List T
  due t zero = take 1 t
  due t (suc n) = reverse t

  abbrev pub IsDue : List T → ℕ → Type 0
  IsDue t zero = 0 < length t
  IsDue t (suc n) = length t + 1 ≡ 2 ^ suc n

  abbrev pub waiting : List (Option (Bor (List T) × ℕ)) → List T
  waiting [] = []
  waiting (None ∷ ps) = waiting ps
  waiting (Some p ∷ ps) = waiting ps ++ due p.0.now p.1

  -- a tree at place i has room for what its levels leave behind
  abbrev pub FitsAt : ℕ → Option (Bor (List T) × ℕ) → Type 0
  FitsAt i None = ⊥
  FitsAt i (Some p) = (i + 2 * p.1 ≤ MAX_PLACES) × IsDue p.0.now p.1

  -- the same of each of the trees, which are from place i on
  abbrev pub FitFrom : ℕ → List (Option (Bor (List T) × ℕ)) → Type 0
  FitFrom i [] = Unit {0}
  FitFrom i (p ∷ ps) = FitsAt i p × FitFrom (suc i) ps
