use Rattle.std.proofs.Common.{sym, subst}
use Rattle.revision_tree.specs.Nodes.{tree_of}
use Rattle.revision_tree.specs.Notes.{AreNotes, IsNoted}
use Rattle.revision_tree.specs.Rows.{nodes_of}
use Rattle.revision_tree.proofs.tree.RevTree.winner.Goals as goal

pub first_of-requires : goal.first_of-requires
first_of-requires c =
    let t = tree_of (nodes_of c.self.inside.rows) in
    let noted : IsNoted t c.deref.result.now = subst (IsNoted t) (sym c.deref.ensures) (subst (AreNotes t) c.in-Many.is c.self.invariant.notes) in
    (t, c.self.invariant.rows.nodes.tree, noted.leaves)
