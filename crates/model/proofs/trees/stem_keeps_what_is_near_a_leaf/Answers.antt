use Rattle.model.proofs.StemLaws.{stem-restriction, leaves-stem, stem_whole}
use Rattle.model.proofs.trees.stem_keeps_what_is_near_a_leaf.Goals as goal

pub returns-clause-kept : goal.returns-clause-kept
returns-clause-kept c limit t u forest = stem-restriction limit t forest u

pub returns-clause-leaves : goal.returns-clause-leaves
returns-clause-leaves c limit t positive forest = leaves-stem limit t forest positive

pub returns-clause-whole : goal.returns-clause-whole
returns-clause-whole c limit t forest short = stem_whole limit t forest short
