-- The parts of a path.
use Rattle.std.proofs.Common.{◌≡◌, List, [], ◌∷◌, refl}
use Rattle.model.specs.Revision.{Rev}
use Rattle.model.specs.TreeChange.{IsPath}
use Rattle.commands.specs.Merge.{newest_of, older_of}

-- a path is its newest revision and the older ones
pub path-parts : (path : List Rev) → IsPath path → newest_of path ∷ older_of path ≡ path
path-parts [] h = absurd h
path-parts (newest ∷ older) h = refl
