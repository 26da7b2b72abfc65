-- Revisions that were seen.
use Rattle.std.specs.Prelude.{◌≡◌, List}
use Rattle.std.specs.BTreeSet.{BTreeSet, contains}
use Rattle.model.specs.Revision.{Rev, rev_cmp}
use Rattle.model.specs.Tree.{among}

-- the set has just the revisions of the list
pub record AreSeen (seen : BTreeSet Rev) (rs : List Rev) : Type 0 where
  pub has : (r : Rev) → contains rev_cmp seen r ≡ among rs r
