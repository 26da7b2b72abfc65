-- What a tree of shared nodes is seen as, and what holds of its nodes.
use Rattle.std.specs.Prelude.{◌≡◌, ℕ, ◌+◌, ◌/◌, ◌^◌, ◌<◌, ◌≤◌, max, List, [], ◌∷◌, ◌++◌, length, Option, Some, None}
use Rattle.std.specs.Arc.{arc_value}
use Rattle.std.specs.declared.sync.Arc.{Arc}
use Rattle.std.specs.declared.alloc.Global.{Global}
use Rattle.cow_index.specs.declared.tree.Entry.{Entry}
use Rattle.cow_index.specs.declared.tree.Node.{Node}
use Rattle.cow_index.specs.Height.{DifferByAtMost}

module _ {K V : Type 0} where
  abbrev pub pair_of : Arc (Entry K V) Global → K × V
  pair_of e = ((arc_value e).key, (arc_value e).value)

  abbrev pub entries_of : Node K V → List (K × V)
  entries_of n = n.left.0 ++ pair_of n.entry ∷ n.right.0

  abbrev pub height_of : Node K V → ℕ
  height_of n = max n.left.1 n.right.1 + 1

  -- the entries in order, and the height
  abbrev pub seen : Option (Arc (Node K V) Global) → List (K × V) × ℕ
  seen None = ([], 0)
  seen (Some a) = (entries_of (arc_value a), (arc_value a).height)

  -- n is the root of a tree that is seen as d, with its height and its number of entries stored
  pub record IsRoot (d : List (K × V) × ℕ) (n : Node K V) : Type 0 where
    pub entries : d.0 ≡ entries_of n
    pub lengths : length d.0 ≡ length n.left.0 + length n.right.0 + 1
    pub len : n.len ≡ length d.0
    pub fits : length d.0 < 2 ^ 64
    pub height : n.height ≡ d.1
    pub heights : d.1 ≡ height_of n

  -- its sides are level, so that a tree of its height holds many entries
  pub record IsLevel (d : List (K × V) × ℕ) (n : Node K V) : Type 0 where
    pub sides : DifferByAtMost 1 n.left.1 n.right.1
    pub dense : 2 ^ ((d.1 + 1) / 2) ≤ length d.0 + 1

  abbrev pub IsBalanced : Option (Arc (Node K V) Global) → Type 0
  IsBalanced None = Unit {0}
  IsBalanced (Some a) = IsRoot (seen (Some a)) (arc_value a) × IsLevel (seen (Some a)) (arc_value a)
