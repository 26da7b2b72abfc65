-- Words on lists.
use Rattle.std.specs.Prelude.{ℕ, ◌-◌, Bool, not, List, [], ◌∷◌, length, drop, filter, Option, Some, None}

abbrev pub first_of : {X : Type 0} → List X → Option X
first_of [] = None
first_of (x ∷ xs) = Some x

-- the last n
abbrev pub last_few : {X : Type 0} → ℕ → List X → List X
last_few n xs = drop (length xs - n) xs

-- each member at its first place; `same x y` says that y repeats x
abbrev pub each_once : {X : Type 0} → (X → X → Bool) → List X → List X
each_once same [] = []
each_once same (x ∷ xs) = x ∷ filter (λ y. not (same x y)) (each_once same xs)
