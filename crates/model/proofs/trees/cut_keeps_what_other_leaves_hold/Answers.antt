use Rattle.model.proofs.CutLaws.{cut-restriction, cut-None, leaves-cut, cut_whole}
use Rattle.model.proofs.trees.cut_keeps_what_other_leaves_hold.Goals as goal

pub returns-clause-kept : goal.returns-clause-kept
returns-clause-kept c named t u forest = cut-restriction named t forest u

pub returns-clause-none : goal.returns-clause-none
returns-clause-none c = cut-None

pub returns-clause-leaves : goal.returns-clause-leaves
returns-clause-leaves c named t u forest left = leaves-cut named t forest u left

pub returns-clause-whole : goal.returns-clause-whole
returns-clause-whole c = cut_whole
