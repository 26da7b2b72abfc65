-- Revisions as they are gathered by their documents.
use Rattle.std.specs.Prelude.{◌≡◌, option_map}
use Rattle.std.specs.BTreeMap.{BTreeMap, get as get_in}
use Rattle.std.specs.declared.alloc.Global.{Global}
use Rattle.std.specs.declared.vec.Vec.{Vec}
use Rattle.model.specs.Map.{get}
use Rattle.model.specs.Command.{Id, names}
use Rattle.model.specs.Revision.{Rev}
use Rattle.replicator.specs.Asked.{Asked}

-- both maps have the same revisions of each document
abbrev pub Holds : BTreeMap Id (Vec Rev Global) → Asked → Type 0
Holds gathered asked = (id : Id) → option_map (λ revs. revs.items) (get_in names.cmp gathered id) ≡ get {O = names} asked id
