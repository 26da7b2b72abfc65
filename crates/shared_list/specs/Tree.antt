-- What a tree of shared nodes is seen as, and what holds of its nodes.
use Rattle.std.specs.Prelude.{◌≡◌, List, [], ◌∷◌, ◌++◌, length, Option, Some, None}
use Rattle.std.specs.Arc.{arc_value}
use Rattle.std.specs.declared.sync.Arc.{Arc}
use Rattle.std.specs.declared.alloc.Global.{Global}
use Rattle.shared_list.specs.declared.tree.Node.{Node}

module _ {T : Type 0} where
  -- from the newest to the oldest
  abbrev pub values_of : Node T → List T
  values_of n = n.value ∷ n.left ++ n.right

  abbrev pub seen : Option (Arc (Node T) Global) → List T
  seen None = []
  seen (Some a) = values_of (arc_value a)

  -- n is the root of a tree that is seen as d, and its sides hold equally many values
  pub record IsRoot (d : List T) (n : Node T) : Type 0 where
    pub values : d ≡ values_of n
    pub even : length n.left ≡ length n.right

  abbrev pub IsEven : Option (Arc (Node T) Global) → Type 0
  IsEven None = Unit {0}
  IsEven (Some a) = IsRoot (seen (Some a)) (arc_value a)
