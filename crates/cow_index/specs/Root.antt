-- What the root of a map is seen as, and what holds of a root that leans.
use Rattle.std.specs.Prelude.{ℕ, ◌+◌, ◌≤◌, List}
use Rattle.std.specs.Arc.{arc_value}
use Rattle.cow_index.specs.declared.root.Top.{Top}
use Rattle.cow_index.specs.declared.root.Top.TheVariants.{Level, Leaning}
use Rattle.cow_index.specs.declared.tree.Node.{Node}
use Rattle.cow_index.specs.Tree.{entries_of, height_of, IsRoot}

module _ {K V : Type 0} where
  -- the entries in order, and the height
  abbrev pub shown : Top K V → List (K × V) × ℕ
  shown (Level t) = t
  shown (Leaning a) = (entries_of (arc_value a), height_of (arc_value a))

  -- the left side is higher by two levels or more
  abbrev pub Leans : Node K V → Type 0
  Leans n = n.right.1 + 2 ≤ n.left.1

  abbrev pub Stands : Top K V → Type 0
  Stands (Level t) = Unit {0}
  Stands (Leaning a) = IsRoot (shown (Leaning a)) (arc_value a) × Leans (arc_value a)
