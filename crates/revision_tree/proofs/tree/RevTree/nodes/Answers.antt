use Rattle.revision_tree.specs.Rows.{nodes_of}
use Rattle.revision_tree.proofs.Listed.{IsListOf-nodes}
use Rattle.revision_tree.proofs.tree.RevTree.nodes.Goals as goal

pub returns : goal.returns
returns c = rw (c.all.ensures, ← c.self.view_is) (IsListOf-nodes (nodes_of c.self.inside.rows) c.self.invariant.rows.nodes)
