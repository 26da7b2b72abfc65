use Rattle.model.proofs.StemLaws.{near-suc}
use Rattle.model.proofs.CutLaws.{held_cases}
use Rattle.model.proofs.trees.kept_revisions_lie_above_kept_ones.Goals as goal

pub returns-clause-near : goal.returns-clause-near
returns-clause-near c = near-suc

pub returns-clause-held : goal.returns-clause-held
returns-clause-held c = held_cases
