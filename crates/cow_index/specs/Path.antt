-- The nodes that a walk comes back to, the outermost first, and what it has yet to yield.
use Rattle.std.specs.Prelude.{ℕ, suc, ◌+◌, ◌≤◌, List, [], ◌∷◌, ◌++◌, take, Option, Some, None}
use Rattle.std.specs.Borrow.{Bor}
use Rattle.cow_index.specs.declared.tree.TheConstants.{MAX_HEIGHT}
use Rattle.cow_index.specs.declared.tree.Node.{Node}
use Rattle.cow_index.specs.declared.walk.Path.{Path}
use Rattle.cow_index.specs.Tree.{pair_of, height_of}

module _ {K V : Type 0} where
  -- the places in use
  abbrev pub held : Path K V → List (Option (Bor (Node K V)))
  held p = take p.depth p.places

  -- of each node its entry and its right side, the innermost node first
  abbrev pub waiting : List (Option (Bor (Node K V))) → List (K × V)
  waiting [] = []
  waiting (None ∷ ps) = waiting ps
  waiting (Some n ∷ ps) = waiting ps ++ pair_of n.now.entry ∷ n.now.right.0

  -- a node at place i is no higher than the places from there on
  abbrev pub FitsAt : ℕ → Option (Bor (Node K V)) → Type 0
  FitsAt i None = ⊥
  FitsAt i (Some n) = i + height_of n.now ≤ MAX_HEIGHT

  -- the same of each of the nodes, which are from place i on
  abbrev pub FitFrom : ℕ → List (Option (Bor (Node K V))) → Type 0
  FitFrom i [] = Unit {0}
  FitFrom i (p ∷ ps) = FitsAt i p × FitFrom (suc i) ps
