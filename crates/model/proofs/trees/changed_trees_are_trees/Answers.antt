use Rattle.model.proofs.TreeLaws.{IsForest-empty}
use Rattle.model.proofs.StripLaws.{IsTree-strip}
use Rattle.model.proofs.StemLaws.{IsTree-stem}
use Rattle.model.proofs.CutLaws.{IsTree-cut}
use Rattle.model.proofs.UnionLaws.{IsTree-graft}
use Rattle.model.proofs.trees.changed_trees_are_trees.Goals as goal

pub returns-clause-empty : goal.returns-clause-empty
returns-clause-empty c = IsForest-empty

pub returns-clause-graft : goal.returns-clause-graft
returns-clause-graft c = IsTree-graft

pub returns-clause-stem : goal.returns-clause-stem
returns-clause-stem c = IsTree-stem

pub returns-clause-cut : goal.returns-clause-cut
returns-clause-cut c named t u forest left = IsTree-cut named t forest u left

pub returns-clause-strip : goal.returns-clause-strip
returns-clause-strip c = IsTree-strip
