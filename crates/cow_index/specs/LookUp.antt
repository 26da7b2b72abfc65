-- What a look-up finds from where it is.
use Rattle.std.specs.Prelude.{◌≡◌, T, ⊤, List, Option, option_copied}
use Rattle.std.specs.FinMap.Entries.{find, is_sorted}
use Rattle.std.specs.declared.cmp.Ordering.{Ordering}
use Rattle.cow_index.specs.declared.look_up.Way.{Way}
use Rattle.cow_index.specs.declared.look_up.Way.TheVariants.{Below, Done}

module _ {K V : Type 0} (cmp : K → K → Ordering) where
  abbrev pub found : K → Way K V → Option V
  found key (Below tree) = find cmp key tree.now.0
  found key (Done value) = option_copied value

  -- the keys rise where it is
  abbrev pub IsOrdered : Way K V → Type 0
  IsOrdered (Below tree) = T (is_sorted cmp tree.now.0)
  IsOrdered (Done value) = ⊤

  -- it finds there what is found in the entries
  pub record FindsIn (key : K) (entries : List (K × V)) (way : Way K V) : Type 0 where
    pub ordered : IsOrdered way
    pub same : found key way ≡ find cmp key entries
