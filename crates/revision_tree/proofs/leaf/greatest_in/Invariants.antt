use Rattle.std.proofs.Common.{◌≡◌, None, drop}
use Rattle.revision_tree.specs.Rows.{joined, lists_of}
use Rattle.revision_tree.proofs.Ranked.{greatest_of}
use Rattle.revision_tree.proofs.leaf.greatest_in.Given as goal

abbrev pub invariant-loop-place : goal.invariant-loop-place
invariant-loop-place l = greatest_of l.deleted (joined (drop l.place (lists_of l.pieces))) ≡ None
