use Rattle.model.proofs.TreeLaws.{IsInRange-empty}
use Rattle.model.proofs.StripLaws.{IsInRange-strip}
use Rattle.model.proofs.StemLaws.{IsInRange-stem}
use Rattle.model.proofs.CutLaws.{IsInRange-cut}
use Rattle.model.proofs.UnionLaws.{IsInRange-graft}
use Rattle.model.proofs.trees.changed_trees_stay_in_range.Goals as goal

pub returns-clause-empty : goal.returns-clause-empty
returns-clause-empty c = IsInRange-empty

pub returns-clause-graft : goal.returns-clause-graft
returns-clause-graft c = IsInRange-graft

pub returns-clause-stem : goal.returns-clause-stem
returns-clause-stem c = IsInRange-stem

pub returns-clause-cut : goal.returns-clause-cut
returns-clause-cut c named t u forest ranged left = IsInRange-cut named t forest u left ranged

pub returns-clause-strip : goal.returns-clause-strip
returns-clause-strip c = IsInRange-strip
