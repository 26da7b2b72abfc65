-- What is noted of a tree beside its revisions.
use Rattle.std.specs.Prelude.{◌≡◌, true}
use Rattle.model.specs.Tree.{Tree, is_leaf}
use Rattle.model.specs.Revision.{Rev}
use Rattle.revision_runs.specs.TreeRuns.{AreRuns}
use Rattle.revision_tree.specs.declared.noted.Noted.{Noted}
use Rattle.revision_tree.specs.declared.notes.Notes.{Notes}
use Rattle.revision_tree.specs.declared.notes.Notes.TheVariants.{OneLeaf, Few, Many}
use Rattle.revision_tree.specs.declared.rows.Rows.{Rows}
use Rattle.revision_tree.specs.Nodes.{tree_of}
use Rattle.revision_tree.specs.Ranks.{AreLeaves}
use Rattle.revision_tree.specs.Rows.{nodes_of, IsRows}

-- no two revisions are leaves
abbrev pub HasOneLeaf : Tree → Type 0
HasOneLeaf t = (l m : Rev) → is_leaf t l ≡ true → is_leaf t m ≡ true → l ≡ m

-- the runs and the leaves are those of t
pub record IsNoted (t : Tree) (n : Noted) : Type 0 where
  pub runs : AreRuns t n.runs
  pub leaves : AreLeaves t n.leaves.entries

abbrev pub AreNotes : Tree → Notes → Type 0
AreNotes t OneLeaf = HasOneLeaf t
AreNotes t Few = Unit {0}
AreNotes t (Many n) = IsNoted t n.value

-- the nodes are those of a tree, and what is noted of it holds
pub record IsKept (rs : Rows) (n : Notes) : Type 0 where
  pub rows : IsRows rs
  pub notes : AreNotes (tree_of (nodes_of rs)) n

-- the same, with the runs and the leaves
pub record IsNotedTree (rs : Rows) (n : Noted) : Type 0 where
  pub rows : IsRows rs
  pub noted : IsNoted (tree_of (nodes_of rs)) n
