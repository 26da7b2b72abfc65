-- So far those of the nodes that were passed.
use Rattle.std.proofs.Common.{◌≡◌, map, take}
use Rattle.revision_tree.specs.Nodes.{tree_of}
use Rattle.changes_feed.specs.Latest.{first_above}
use Rattle.changes_feed.proofs.claims.firsts.Given as goal

abbrev pub invariant-loop-place : goal.invariant-loop-place
invariant-loop-place l = l.firsts.items ≡ map (λ n. first_above l.fn.revs (tree_of l.nodes) n.rev) (take l.place l.nodes)
