-- How many steps are kept above a revision.
use Rattle.std.specs.Prelude.{ℕ, ◌-◌, Bool, not, ◌&&◌, nat_lt, max, List, [], ◌∷◌, Option, Some, None, option_and_then, if◌then◌else◌}
use Rattle.model.specs.Map.{entries}
use Rattle.model.specs.Revision.{Rev}
use Rattle.model.specs.Tree.{Tree, Revision, is_at, among, is_leaf}

-- the mark of a leaf that isn't named
abbrev pub first_mark : ℕ → List Rev → Tree → Rev → ℕ
first_mark limit named t r = if is_leaf t r && not (among named r) then limit else 0

-- with the mark of a parent raised
abbrev pub raised : Option Rev → ℕ → (Rev → ℕ) → Rev → ℕ
raised parent mark g r = if is_at parent r then max (g r) mark else g r

-- with the marks of these entries carried to their parents, the last entry first
abbrev pub reach : (Rev → ℕ) → List (Rev × Revision) → Rev → ℕ
reach g [] r = g r
reach g (e ∷ es) r = raised e.1.parent (reach g es e.0 - 1) (reach g es) r

-- whether r is marked
abbrev pub is_reached : ℕ → List Rev → Tree → Rev → Bool
is_reached limit named t r = nat_lt 0 (reach (first_mark limit named t) (entries t) r)

-- what a restriction keeps of a revision
abbrev pub kept_of : (Rev → Bool) → Rev → Revision → Option Revision
kept_of keep r v = if keep r then Some (record v { parent = option_and_then (λ p. if keep p then Some p else None) v.parent }) else None
