-- How the count of a maker of nodes goes on.
use Rattle.std.specs.Prelude.{ℕ, ◌+◌, ◌≤◌}
use Rattle.cow_index.specs.declared.nodes.NodeMaker.{NodeMaker}

-- at most n nodes more were made, and none is forgotten
abbrev pub MakesAtMost : ℕ → NodeMaker → NodeMaker → Type 0
MakesAtMost n old new = (old.made ≤ new.made) × (new.made ≤ old.made + n)
