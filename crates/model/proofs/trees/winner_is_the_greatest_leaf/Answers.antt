use Rattle.model.proofs.LeafLaws.{winner-greatest}
use Rattle.model.proofs.ReachLaws.{some_winner}
use Rattle.model.proofs.trees.winner_is_the_greatest_leaf.Goals as goal

pub returns-clause-greatest : goal.returns-clause-greatest
returns-clause-greatest c = winner-greatest

pub returns-clause-some : goal.returns-clause-some
returns-clause-some c = some_winner
