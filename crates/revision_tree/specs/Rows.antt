-- Nodes that are kept in pieces: the older pieces may be shared, the last is not.
use Rattle.std.specs.Prelude.{◌≡◌, ℕ, suc, ◌<◌, ◌≤◌, Bool, false, not, List, [], ◌∷◌, ◌++◌, All, length, map, take, drop}
use Rattle.std.specs.List.{flat_map}
use Rattle.std.specs.Ordering.{is_lt}
use Rattle.std.specs.Arc.{arc_value}
use Rattle.std.specs.declared.sync.Arc.{Arc}
use Rattle.std.specs.declared.vec.Vec.{Vec}
use Rattle.std.specs.declared.alloc.Global.{Global}
use Rattle.std.specs.declared.cmp.Ordering.TheVariants.{Less}
use Rattle.model.specs.Revision.{Rev, rev_cmp}
use Rattle.revision_tree.specs.declared.node.Node.{Node}
use Rattle.revision_tree.specs.declared.rows.Rows.{Rows}
use Rattle.revision_tree.specs.Nodes.{IsNodes}

abbrev pub Piece : Type 0
Piece = Arc (Vec Node Global) Global

abbrev pub items_of : Piece → List Node
items_of p = (arc_value p).items

abbrev pub lists_of : List Piece → List (List Node)
lists_of ps = map items_of ps

abbrev pub joined : List (List Node) → List Node
joined nss = flat_map (λ ns. ns) nss

-- all nodes, in order
abbrev pub nodes_of : Rows → List Node
nodes_of rs = joined (lists_of rs.older.items) ++ rs.last.items

-- no piece is empty
abbrev pub AreFilled : List (List Node) → Type 0
AreFilled nss = All (λ ns. 0 < length ns) nss

-- the first of them is not above r
abbrev pub starts_by : Rev → List Node → Bool
starts_by r [] = false
starts_by r (n ∷ ns) = not (is_lt (rev_cmp r n.rev))

abbrev pub AllBelow : Rev → List Node → Type 0
AllBelow r ns = All (λ n. rev_cmp n.rev r ≡ Less) ns

abbrev pub AllAbove : Rev → List Node → Type 0
AllAbove r ns = All (λ n. rev_cmp r n.rev ≡ Less) ns

-- the pieces before place i are below r, and those behind it above; the place behind the older pieces is that of the last
pub record IsPlaceFor (rs : Rows) (r : Rev) (i : ℕ) : Type 0 where
  pub bound : i ≤ length rs.older.items
  pub below : AllBelow r (joined (take i (lists_of rs.older.items)))
  pub above : i < length rs.older.items → AllAbove r (joined (drop (suc i) (lists_of rs.older.items)) ++ rs.last.items)

-- the nodes are those of a tree that a document can have
pub record IsRows (rs : Rows) : Type 0 where
  pub nodes : IsNodes (nodes_of rs)
  pub filled : AreFilled (lists_of rs.older.items)
