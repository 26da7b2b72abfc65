-- Which of the revisions that are asked for a leaf is shown for.
use Rattle.std.specs.Prelude.{ℕ, suc, Bool, List, [], ◌∷◌, if◌then◌else◌}
use Rattle.model.specs.Revision.{Rev}
use Rattle.model.specs.Tree.{Tree, among, path_of}

-- the place of the first that passes, and the length where none does
abbrev pub first_place : (Rev → Bool) → List Rev → ℕ
first_place p [] = 0
first_place p (x ∷ xs) = if p x then 0 else suc (first_place p xs)

-- the place of the first of these revisions that r descends from, itself if it is one of them
abbrev pub first_above : List Rev → Tree → Rev → ℕ
first_above revs t r = first_place (λ a. among (path_of t r) a) revs
