-- Where a target begins.
use Rattle.std.specs.Prelude.{◌≡◌, ℕ, ◌==◌, Bool, not, List, [], ◌∷◌, ◌++◌}
use Rattle.httparse.specs.Ascii.{space}
use Rattle.httparse.specs.Grammar.{AllPass}

-- a byte other than a space
abbrev pub is_other : ℕ → Bool
is_other b = not (b == space)

-- the bytes end with their first space
-- RFC 9112, 3 "Request Line"
abbrev pub EndsAtSpace : List ℕ → Type 0
EndsAtSpace bytes = (front : List ℕ) × AllPass is_other front × (bytes ≡ front ++ space ∷ [])
