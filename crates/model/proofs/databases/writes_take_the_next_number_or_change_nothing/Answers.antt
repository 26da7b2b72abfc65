use Rattle.model.specs.Database.{edit_in, merge_in}
use Rattle.model.proofs.WriteLaws.{written-same, written-other, with_tree-there, with_tree-others}
use Rattle.model.proofs.databases.writes_take_the_next_number_or_change_nothing.Goals as goal

pub returns-clause-edit_same : goal.returns-clause-edit_same
returns-clause-edit_same c d e w = written-same d e.id (edit_in d e) w

pub returns-clause-edit_new : goal.returns-clause-edit_new
returns-clause-edit_new c d e w = written-other d e.id (edit_in d e) w

pub returns-clause-merge_same : goal.returns-clause-merge_same
returns-clause-merge_same c d m w = written-same d m.id (merge_in d m) w

pub returns-clause-merge_new : goal.returns-clause-merge_new
returns-clause-merge_new c d m w = written-other d m.id (merge_in d m) w

pub returns-clause-there : goal.returns-clause-there
returns-clause-there c d id t = with_tree-there d id t

pub returns-clause-others : goal.returns-clause-others
returns-clause-others c d id other t = with_tree-others d id t other
