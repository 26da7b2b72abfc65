use Rattle.std.proofs.Common.{◌∙◌, ◌-◌, ap, sym, subst}
use Rattle.std.specs.List.{filter_map}
use Rattle.revision_tree.specs.Notes.{HasOneLeaf}
use Rattle.revision_tree.specs.Nodes.{rows_of, tree_of}
use Rattle.revision_tree.specs.Rows.{nodes_of}
use Rattle.revision_tree.specs.Shortened.{row_above}
use Rattle.revision_tree.proofs.Shortened.{shortened_nodes, shortened_tree}
use Rattle.revision_tree.proofs.Kept.{one_level, one_shortened}
use Rattle.revision_tree.proofs.tree.stems.shortened.Goals as goal

pub invariant_of-result : goal.invariant_of-result
invariant_of-result c =
    let ns = nodes_of c.args.rows in
    let made = nodes_of c.in_ok-left.left in
    let newest = c.last-newest.result in
    let h = c.requires.rows.nodes in
    let level = one_level (tree_of ns) h.tree.forest c.requires.one newest c.last-newest.ensures.known c.last-newest.ensures.newest in
    let is = c.in_ok-left.ensures.rows ∙ ap (λ g. filter_map (row_above g) (rows_of ns)) (c.saturating_sub-oldest.ensures ∙ ap (λ g. g - c.args.limit) c.generation.ensures.value) in
    let stems = shortened_tree ns h c.args.limit c.requires.limit newest c.last-newest.ensures.known c.last-newest.ensures.newest level made is in
    record {
      rows = record {
        nodes = shortened_nodes ns h c.args.limit c.requires.limit newest c.last-newest.ensures.known c.last-newest.ensures.newest level made is;
        filled = c.in_ok-left.ensures.filled;
      };
      notes = subst HasOneLeaf (sym stems) (one_shortened (tree_of ns) h.tree.forest c.args.limit c.requires.limit newest c.last-newest.ensures.known c.last-newest.ensures.newest level c.requires.one);
    }

pub returns : goal.returns
returns c =
    let ns = nodes_of c.args.rows in
    let made = nodes_of c.in_ok-left.left in
    let newest = c.last-newest.result in
    let h = c.requires.rows.nodes in
    let level = one_level (tree_of ns) h.tree.forest c.requires.one newest c.last-newest.ensures.known c.last-newest.ensures.newest in
    let is = c.in_ok-left.ensures.rows ∙ ap (λ g. filter_map (row_above g) (rows_of ns)) (c.saturating_sub-oldest.ensures ∙ ap (λ g. g - c.args.limit) c.generation.ensures.value) in
    shortened_tree ns h c.args.limit c.requires.limit newest c.last-newest.ensures.known c.last-newest.ensures.newest level made is
