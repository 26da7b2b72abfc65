-- What the trees of a list are seen as, and what holds of their levels.
use Rattle.std.specs.Prelude.{◌≡◌, ℕ, ◌+◌, ◌-◌, ◌^◌, ◌<◌, ◌≤◌, List, [], ◌∷◌, ◌++◌, length, Option, Some, None}
use Rattle.std.specs.Arc.{arc_value}
use Rattle.std.specs.declared.sync.Arc.{Arc}
use Rattle.std.specs.declared.alloc.Global.{Global}
use Rattle.shared_list.specs.declared.spine.Link.{Link}

-- n is below the first of the numbers, if there is one
abbrev pub IsBelowFirst : ℕ → List ℕ → Type 0
IsBelowFirst n [] = Unit {0}
IsBelowFirst n (m ∷ ms) = n < m

abbrev pub IsAtMostFirst : ℕ → List ℕ → Type 0
IsAtMostFirst n [] = Unit {0}
IsAtMostFirst n (m ∷ ms) = n ≤ m

abbrev pub Rises : List ℕ → Type 0
Rises [] = Unit {0}
Rises (n ∷ ns) = IsBelowFirst n ns × Rises ns

-- the numbers rise from one on, but the first two may be equal
abbrev pub IsSkew : List ℕ → Type 0
IsSkew [] = Unit {0}
IsSkew (n ∷ ns) = (1 ≤ n) × IsAtMostFirst n ns × Rises ns

-- how many values the trees of so many levels hold
abbrev pub sizes : List ℕ → ℕ
sizes [] = 0
sizes (n ∷ ns) = 2 ^ n - 1 + sizes ns

module _ {T : Type 0} where
  -- the values from the newest to the oldest, and the levels of each tree
  abbrev pub seen : Option (Arc (Link T) Global) → List T × List ℕ
  seen None = ([], [])
  seen (Some a) = ((arc_value a).tree ++ (arc_value a).rest.0, (arc_value a).levels ∷ (arc_value a).rest.1)

  -- l is the first link of trees that are seen as d
  pub record IsFirst (d : List T × List ℕ) (l : Link T) : Type 0 where
    pub values : d.0 ≡ l.tree ++ l.rest.0
    pub levels : d.1 ≡ l.levels ∷ l.rest.1
    pub whole : length l.tree + 1 ≡ 2 ^ l.levels
    pub counted : l.len ≡ length l.tree
    pub skew : IsSkew d.1
    pub full : length d.0 ≡ sizes d.1

  abbrev pub IsHeld : Option (Arc (Link T) Global) → Type 0
  IsHeld None = Unit {0}
  IsHeld (Some a) = IsFirst (seen (Some a)) (arc_value a)
