-- What the calls of a scripted reader or writer do.
use Rattle.std.specs.Prelude.{ℕ, List, [], ◌∷◌, Option, None, Some, min, max}
use Rattle.streams.specs.declared.scripted.Step.{Step}
use Rattle.streams.specs.declared.scripted.Step.TheVariants.{AtMost, Fail}

-- how many bytes the next call moves where it could move n, or none where it fails
abbrev pub moved : List Step → ℕ → Option ℕ
moved [] n = Some n
moved (AtMost most ∷ steps) n = Some (min n (max most 1))
moved (Fail ∷ steps) n = None

-- the script after that call: the last step stays
abbrev pub steps_after : List Step → List Step
steps_after [] = []
steps_after (step ∷ []) = step ∷ []
steps_after (step ∷ next ∷ steps) = next ∷ steps
