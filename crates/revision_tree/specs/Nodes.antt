-- The tree that a list of nodes stands for.
use Rattle.std.specs.Prelude.{◌≡◌, ℕ, ◌<◌, T, Bool, false, not, ◌&&◌, ◌||◌, List, map, Option, option_map, Contains, length, slice_index_or}
use Rattle.std.specs.List.{list_any}
use Rattle.std.specs.Bool.{beq}
use Rattle.std.specs.Arc.{arc_value}
use Rattle.std.specs.FinMap.Entries.{is_sorted}
use Rattle.model.specs.Revision.{Rev, rev_cmp}
use Rattle.model.specs.Map.{entries, from_list}
use Rattle.model.specs.Tree.{Tree, Revision, Leaf, is_at, has_child, IsTree, IsInRange}
use Rattle.revision_tree.specs.declared.node.Node.{Node}

-- what a tree has of a node's revision
abbrev pub entry_of : Node → Rev × Revision
entry_of n = (n.rev, record { parent = n.parent; deleted = n.deleted; body = option_map arc_value n.body })

abbrev pub entries_of : List Node → List (Rev × Revision)
entries_of nodes = map entry_of nodes

-- the same with the mark of a parent
abbrev pub Row : Type 0
Row = Rev × (Revision × Bool)

abbrev pub row_of : Node → Row
row_of n = (n.rev, ((entry_of n).1, n.inner))

abbrev pub rows_of : List Node → List Row
rows_of nodes = map row_of nodes

abbrev pub tree_of : List Node → Tree
tree_of nodes = from_list (entries_of nodes)

-- the nodes are the revisions of t in rising order, and t is a tree that a document can have
pub record IsListOf (nodes : List Node) (t : Tree) : Type 0 where
  pub entries : entries t ≡ entries_of nodes
  pub tree : IsTree t
  pub range : IsInRange t

abbrev pub leaf_of : Node → Leaf
leaf_of n = record { deleted = n.deleted; rev = n.rev }

-- a leaf with this flag
abbrev pub is_wanted : Bool → Node → Bool
is_wanted d n = not n.inner && beq n.deleted d

-- with the mark of a parent where one of these entries has it as its parent
abbrev pub marked_in : List (Rev × Revision) → Node → Node
marked_in es n = record n { inner = list_any (λ e. is_at e.1.parent n.rev) es }

abbrev pub marked_by : List (Rev × Revision) → List Node → List Node
marked_by es nodes = map (marked_in es) nodes

abbrev pub without_mark : Node → Node
without_mark n = record n { inner = false }

-- with the mark of a parent where it has this revision
abbrev pub with_mark : Option Rev → Node → Node
with_mark parent n = record n { inner = is_at parent n.rev || n.inner }

-- the revision is at place i
pub record IsPlaceOf (nodes : List Node) (r : Rev) (i : ℕ) : Type 0 where
  pub within : i < length nodes
  pub rev : (n : Node) → (slice_index_or nodes i n).rev ≡ r

abbrev pub IsSorted : List Node → Type 0
IsSorted nodes = T (is_sorted rev_cmp (entries_of nodes))

-- the nodes ascend, the parents among them are marked, and the tree is one that a document can have
pub record IsNodes (nodes : List Node) : Type 0 where
  pub sorted : IsSorted nodes
  pub inner : (n : Node) → Contains nodes n → n.inner ≡ has_child (tree_of nodes) n.rev
  pub tree : IsTree (tree_of nodes)
  pub range : IsInRange (tree_of nodes)
