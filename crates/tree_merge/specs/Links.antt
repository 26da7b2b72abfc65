-- A path whose steps are known.
use Rattle.std.specs.Prelude.{◌≡◌, true, List, Some}
use Rattle.model.specs.Revision.{Rev}
use Rattle.model.specs.Tree.{Tree, parent_of}
use Rattle.model.specs.TreeChange.{is_pair}

-- of two neighbours on the path the next is the parent
abbrev pub IsLinked : Tree → List Rev → Type 0
IsLinked t path = (c p : Rev) → is_pair path c p ≡ true → parent_of t c ≡ Some p
