use Rattle.std.proofs.Common.{◌≡◌, Bool, take}
use Rattle.model.specs.Body.{Body}
use Rattle.model.specs.TreeChange.{grafted}
use Rattle.revision_runs.specs.TreeRuns.{AreRuns}
use Rattle.revision_tree.specs.Nodes.{tree_of}
use Rattle.revision_tree.specs.Rows.{nodes_of}
use Rattle.revision_tree.proofs.members.runs_with.Given as goal

abbrev pub invariant-loop-place : goal.invariant-loop-place
invariant-loop-place l = (body : Body) (deleted : Bool) → tree_of (nodes_of l.rows) ≡ grafted l.path body deleted l.tree → AreRuns (grafted (take l.place l.path) body deleted l.tree) l.grown
