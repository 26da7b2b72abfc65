-- What a path adds to the nodes of a tree.
use Rattle.std.specs.Prelude.{◌≡◌, Bool, true, false, ◌||◌, List, [], ◌∷◌, drop, Some, unwrap_or}
use Rattle.std.specs.FinMap.Entries.{find}
use Rattle.model.specs.Map.{Map, entries, refine}
use Rattle.model.specs.Body.{Body}
use Rattle.model.specs.Revision.{Rev, rev_cmp, revs}
use Rattle.model.specs.Tree.{Tree, Revision, IsForest, has_child, among}
use Rattle.model.specs.TreeChange.{IsPath, linked, linked_to, given, grafted, unseen}
use Rattle.revision_tree.specs.declared.node.Node.{Node}
use Rattle.revision_tree.specs.Nodes.{Row, rows_of, tree_of}

-- what there is of a revision: where it is not known, nothing, and it is the parent of none
abbrev pub seen_in : List Row → Rev → Revision × Bool
seen_in rows r = unwrap_or (find rev_cmp r rows) (unseen, false)

-- a member of a path that is not the newest
abbrev pub as_parent : List Rev → Revision × Bool → Revision × Bool
as_parent older v = (linked_to older v.0, true)

-- the newest member of a path
abbrev pub as_newest : List Rev → Body → Bool → Revision × Bool → Revision × Bool
as_newest older body deleted v = (given body deleted (linked_to older v.0), v.1)

-- the revisions of t and these members, with the marks of the parents in t and of these members
abbrev pub marked_with : List Rev → Tree → Map revs (Revision × Bool)
marked_with rs t = refine (λ q v. Some (v, has_child t q || among rs q)) (linked rs t)

-- the nodes with the members of a path that are not the newest
pub record AreLinked (rs : List Rev) (t : Tree) (nodes : List Node) : Type 0 where
  pub rows : rows_of nodes ≡ entries (marked_with rs t)

-- the nodes are those of a tree that may be empty, with its parents marked
pub record AreGround (nodes : List Node) : Type 0 where
  pub forest : IsForest (tree_of nodes)
  pub linked : AreLinked [] (tree_of nodes) nodes

-- what is above the newest of a path
abbrev pub IsRest : List Rev → Type 0
IsRest [] = Unit {0}
IsRest (r ∷ rs) = IsPath (r ∷ rs)

-- the revisions of a graft, with the marks of the parents in t and of the members that are not the newest
abbrev pub grown : List Rev → Body → Bool → Tree → Map revs (Revision × Bool)
grown path body deleted t = refine (λ q v. Some (v, has_child t q || among (drop 1 path) q)) (grafted path body deleted t)
