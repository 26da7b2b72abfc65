-- Stems, top by top, and trees, revision by revision.
use Rattle.std.specs.Prelude.{◌≡◌, ◌≤◌, ℕ, suc, ◌+◌, true, List, [], ◌∷◌, Some, None, is_some, if◌then◌else◌}
use Rattle.model.specs.Map.{entries, get}
use Rattle.model.specs.Revision.{Rev}
use Rattle.model.specs.Tree.{Tree, Revision, IsForest, IsNear, knows}
use Rattle.revision_runs.specs.Runs.{RunMap}
use Rattle.revision_runs.specs.Changes.{IsLinked, IsPartOf, IsRooted}
use Rattle.revision_runs.specs.TreeRuns.{AreRuns, IsTop}
use Rattle.revision_runs.specs.declared.run.Run.{Run}
use Rattle.revision_tree.specs.declared.node.Node.{Node}

-- a top that isn't fewer than `limit` steps above any leaf
pub record IsDue (limit : ℕ) (t : Tree) (top : Rev) : Type 0 where
  pub at_top : IsTop t top
  pub far : IsNear limit t top → ⊥

-- a top that is so many steps or more above the nearest leaf, by its run
pub record IsDueAt (limit : ℕ) (runs : RunMap) (top : Rev) : Type 0 where
  pub run : Run
  pub is : get runs top ≡ Some run
  pub due : top.generation + limit ≤ run.low

-- how many revisions and parents there are
abbrev pub weight_of : List (Rev × Revision) → ℕ
weight_of [] = 0
weight_of (e ∷ es) = suc ((if is_some e.1.parent then 1 else 0) + weight_of es)

abbrev pub weight : Tree → ℕ
weight t = weight_of (entries t)

-- ---- a tree, revision by revision

-- u has one revision more than t: in between it has no parent
pub record IsNodeStep (whole t u : Tree) (n : Node) : Type 0 where
  pub middle : Tree
  pub before : IsForest t
  pub between : IsForest middle
  pub after : IsForest u
  pub rooted : IsRooted t middle n.rev
  pub linked : (p : Rev) → n.parent ≡ Some p → IsLinked middle u n.rev p × (knows middle p ≡ true) × IsPartOf middle whole
  pub alone : n.parent ≡ None → (runs : RunMap) → AreRuns middle runs → AreRuns u runs
