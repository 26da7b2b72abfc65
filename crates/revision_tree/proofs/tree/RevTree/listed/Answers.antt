use Rattle.revision_tree.specs.Rows.{nodes_of}
use Rattle.revision_tree.proofs.Grafts.{listed_if_ok}
use Rattle.revision_tree.proofs.tree.RevTree.listed.Goals as goal

pub returns : goal.returns
returns c = rw (← c.self.view_is) (listed_if_ok c.all.result (nodes_of c.self.inside.rows) c.self.invariant.rows.nodes c.all.ensures)
