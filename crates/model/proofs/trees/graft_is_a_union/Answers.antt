use Rattle.model.proofs.GraftLaws.{graft-None}
use Rattle.model.proofs.UnionLaws.{graft-union}
use Rattle.model.proofs.trees.graft_is_a_union.Goals as goal

pub returns-clause-union : goal.returns-clause-union
returns-clause-union c = graft-union

pub returns-clause-refused : goal.returns-clause-refused
returns-clause-refused c = graft-None
