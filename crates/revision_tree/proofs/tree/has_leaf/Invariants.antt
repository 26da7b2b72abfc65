use Rattle.revision_tree.proofs.tree.has_leaf.Given as goal

abbrev pub invariant-loop-rev : goal.invariant-loop-rev
invariant-loop-rev l = Unit {0}
