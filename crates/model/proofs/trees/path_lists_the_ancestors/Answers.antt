use Rattle.model.proofs.AncestorLaws.{slice_get-path_of}
use Rattle.model.proofs.trees.path_lists_the_ancestors.Goals as goal

pub returns-clause-known : goal.returns-clause-known
returns-clause-known c t r n forest known = slice_get-path_of t forest r n known
