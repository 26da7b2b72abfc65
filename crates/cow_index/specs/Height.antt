-- Heights of balanced trees.
use Rattle.std.specs.Prelude.{◌≡◌, max, ℕ, ◌+◌, ◌-◌, ◌≤◌}
use Rattle.std.specs.Int.Count.{count_leading_zeros}

-- how many binary digits n has: of n places, those that are not leading zeros
unfoldable pub bits : ℕ → ℕ
bits n = n - count_leading_zeros n n

-- neither height is more than this above the other
abbrev pub DifferByAtMost : ℕ → ℕ → ℕ → Type 0
DifferByAtMost by l r = (l ≤ r + by) × (r ≤ l + by)

-- h is the height that a node over sides l and r settles to
abbrev pub IsHeightAfterRebalance : ℕ → ℕ → ℕ → Type 0
IsHeightAfterRebalance l r h = (max l r ≤ h) × (h ≤ max l r + 1) × (DifferByAtMost 1 l r → h ≡ max l r + 1)
