-- How often a header is in a head.
use Rattle.std.specs.Prelude.{◌≡◌, ℕ, ◌<◌, List, [], ◌∷◌, length}
use Rattle.http_framing.specs.declared.headers.Occurrence.{Occurrence}
use Rattle.http_framing.specs.declared.headers.Occurrence.TheVariants.{Never, Once, Often}

-- the values of the headers of one name
abbrev pub Occurs : Occurrence → List (List ℕ) → Type 0
Occurs Never values = values ≡ []
Occurs (Once value) values = values ≡ value.now ∷ []
Occurs Often values = 1 < length values
