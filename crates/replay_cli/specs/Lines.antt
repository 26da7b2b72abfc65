-- The lines of a text.
use Rattle.std.specs.Prelude.{ℕ, ◌==◌, List, [], ◌∷◌, if◌then◌else◌}

-- with this byte in front of the first line
abbrev pub onto : ℕ → List (List ℕ) → List (List ℕ)
onto byte [] = (byte ∷ []) ∷ []
onto byte (line ∷ more) = (byte ∷ line) ∷ more

-- each with its line feed, which the last one may lack
abbrev pub lines : List ℕ → List (List ℕ)
lines [] = []
lines (byte ∷ text) = if byte == 10 then (byte ∷ []) ∷ lines text else onto byte (lines text)

-- the same, where a text of no byte is one line
abbrev pub lines_or_one : List ℕ → List (List ℕ)
lines_or_one [] = [] ∷ []
lines_or_one (byte ∷ text) = lines (byte ∷ text)
