use Rattle.std.proofs.Common.{◌≡◌, ◌-◌, [], length, take, drop, subst, List}
use Rattle.model.specs.Revision.{Rev}
use Rattle.model.specs.TreeChange.{IsPath}
use Rattle.std.specs.Arc.{arc_value}
use Rattle.revision_tree.specs.Nodes.{tree_of}
use Rattle.revision_tree.specs.Rows.{nodes_of}
use Rattle.revision_tree.proofs.Grafts.{uncons, no_first, rest_of_path, linked_sorted, grown_rows}
use Rattle.revision_tree.proofs.Pieces.{if_ok}
use Rattle.revision_tree.proofs.growth.grow.Goals as goal

none : (path : List Rev) → path ≡ [] → IsPath path → ⊥
none path e h = subst IsPath e h

pub returns-in_default : goal.returns-in_default
returns-in_default c = absurd (none c.args.path.now (no_first c.args.path.now c.in_default.len_below) c.requires.path)

pub link-requires-clause-path : goal.link-requires-clause-path
link-requires-clause-path c =
    let path = c.args.path.now in
    let newest = c.newest-item.result in
    rest_of_path newest (take (length path - 1) (drop 1 path)) (subst IsPath (uncons path newest c.in-len1-up.len_at_least c.newest-item.is) c.requires.path)

pub add_newest-requires-clause-sorted : goal.add_newest-requires-clause-sorted
add_newest-requires-clause-sorted c = linked_sorted _ (tree_of (nodes_of c.args.rows.now)) (nodes_of c.link.new.rows) c.in_ok-link.ensures.linked

pub returns-clause-grown : goal.returns-clause-grown
returns-clause-grown c =
    let path = c.args.path.now in
    let newest = c.newest-item.result in
    let older = take (length path - 1) (drop 1 path) in
    if_ok c.add_newest.result (λ e. grown_rows path newest older (arc_value c.args.body) c.args.deleted (tree_of (nodes_of c.args.rows.now)) (nodes_of c.link.new.rows) (nodes_of c.add_newest.new.rows)
    (uncons path newest c.in-len1-up.len_at_least c.newest-item.is) c.requires.path c.requires.ground.forest c.in_ok-link.ensures.linked e) c.add_newest.ensures.put
