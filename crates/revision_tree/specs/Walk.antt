-- A walk along the nodes of a tree.
use Rattle.std.specs.Prelude.{List, ◌++◌}
use Rattle.revision_tree.specs.declared.node.Node.{Node}
use Rattle.revision_tree.specs.declared.walk.Nodes.{Nodes}
use Rattle.revision_tree.specs.Rows.{joined, lists_of}

-- what the walk has yet to come to
abbrev pub left_of : Nodes → List Node
left_of w = w.piece.now ++ (joined (lists_of w.older.now) ++ w.last.now)
