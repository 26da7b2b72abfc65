-- Local documents and the list of them.
use Rattle.std.specs.Prelude.{◌≡◌, List, Some}
use Rattle.model.specs.Map.{Map, entries, get}
use Rattle.model.specs.Command.{Id, names}
use Rattle.model.specs.Local.{Local}
use Rattle.model.specs.Database.{IsLocal}

-- the list has the documents in the order of their ids, and each is one that a database can have
pub record IsListOf (listed : List (Id × Local)) (locals : Map names Local) : Type 0 where
  pub entries : entries locals ≡ listed
  pub each : (id : Id) (l : Local) → get locals id ≡ Some l → IsLocal id l
