use Rattle.std.proofs.Common.{◌≡◌, ◌++◌, drop}
use Rattle.revision_tree.specs.Rows.{joined, lists_of}
use Rattle.revision_tree.proofs.Ranked.{revs_half}
use Rattle.revision_tree.proofs.leaf.add_marked.Given as goal

abbrev pub invariant-loop-place : goal.invariant-loop-place
invariant-loop-place l = l.leaves.items ≡ l.fn.leaves.items ++ revs_half l.deleted (joined (drop l.place (lists_of l.rows.older.items)) ++ l.rows.last.items)
