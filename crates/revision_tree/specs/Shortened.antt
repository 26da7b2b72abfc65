-- Nodes without the oldest.
use Rattle.std.specs.Prelude.{ℕ, suc, ◌≤◌, nat_lt, List, All, Option, Some, None, IfSome, option_and_then, if◌then◌else◌}
use Rattle.revision_tree.specs.declared.node.Node.{Node}
use Rattle.revision_tree.specs.Nodes.{Row, IsSorted}

-- with its parent where that is above a generation
abbrev pub cut_row : ℕ → Row → Row
cut_row g r = (r.0, (record r.1.0 { parent = option_and_then (λ p. if nat_lt g p.generation then Some p else None) r.1.0.parent }, r.1.1))

-- the same, where it is above that generation itself
abbrev pub row_above : ℕ → Row → Option Row
row_above g r = if nat_lt g r.0.generation then Some (cut_row g r) else None

-- its parent is at most one generation older
abbrev pub IsNearParent : Node → Type 0
IsNearParent n = IfSome n.parent (λ p. n.rev.generation ≤ suc p.generation)

-- the nodes ascend, and a parent is at most one generation older
pub record IsRising (ns : List Node) : Type 0 where
  pub sorted : IsSorted ns
  pub near : All IsNearParent ns
