-- What there is of a revision that loses its parent.
use Rattle.std.specs.Prelude.{Bool, None}
use Rattle.model.specs.Tree.{Revision}

abbrev pub with_no_parent : Revision × Bool → Revision × Bool
with_no_parent v = (record v.0 { parent = None }, v.1)
