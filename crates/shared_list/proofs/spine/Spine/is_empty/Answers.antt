use Rattle.shared_list.proofs.Levels.{few_trees}
use Rattle.shared_list.proofs.spine.Spine.is_empty.Goals as goal

pub returns-in-Some-clause-few : goal.returns-in-Some-clause-few
returns-in-Some-clause-few g c = (few_trees _ _ c.in-Some.ensures.first c.requires).2
