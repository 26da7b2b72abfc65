-- Nodes without one revision.
use Rattle.std.specs.Prelude.{◌≡◌, Bool, not, List, All, Option, Some, None, option_and_then, if◌then◌else◌}
use Rattle.model.specs.Revision.{Rev, same_rev}
use Rattle.revision_tree.specs.declared.node.Node.{Node}
use Rattle.revision_tree.specs.Nodes.{Row, IsSorted}

-- another revision than r
abbrev pub is_other : Rev → Rev → Bool
is_other r q = not (same_rev r q)

-- with its parent where that is another
abbrev pub row_apart : Rev → Row → Row
row_apart r row = (row.0, (record row.1.0 { parent = option_and_then (λ p. if is_other r p then Some p else None) row.1.0.parent }, row.1.1))

-- the same, where it is another itself
abbrev pub row_without : Rev → Row → Option Row
row_without r row = if is_other r row.0 then Some (row_apart r row) else None

-- it is no child of r, unless it is this one
abbrev pub IsChildOnly : Rev → Rev → Node → Type 0
IsChildOnly r child n = n.parent ≡ Some r → n.rev ≡ child

-- the nodes ascend, and r has no child among them but this
pub record IsPart (r child : Rev) (ns : List Node) : Type 0 where
  pub sorted : IsSorted ns
  pub children : All (IsChildOnly r child) ns
