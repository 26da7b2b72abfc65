use Rattle.std.proofs.Common.{◌∙◌, sym, ap, set, get_or}
use Rattle.std.specs.Prelude.{max}
use Rattle.revision_tree.specs.Nodes.{entries_of, tree_of}
use Rattle.tree_merge.specs.Reach.{raised}
use Rattle.tree_merge.proofs.Raised.{marks_by, raise_at, raise_unknown_node, rising_nodes, place_entry, sorted_in_list}
use Rattle.tree_merge.proofs.reach.raise.Goals as goal

pub place_among-requires : goal.place_among-requires
place_among-requires c = sorted_in_list c.args.nodes.now (tree_of c.args.nodes.now) c.requires.listed

pub returns-in-Some-place_among : goal.returns-in-Some-place_among
returns-in-Some-place_among c = λ g e.
    let nodes = c.args.nodes.now in
    let es = entries_of nodes in
    let i = c.in-Some-place_among.place in
    let at = place_entry nodes i c.in-Some.parent c.in-Some-place_among.ensures.place in
    ap (set c.args.marks.now i) c.max.ensures ∙ ap (λ ms. set ms i (max (get_or ms i 0) c.args.mark)) e
    ∙ raise_at g c.args.mark es i 0 c.in-Some.parent (rising_nodes nodes (tree_of nodes) c.requires.listed) at.0 at.1
    ∙ ap (λ o. marks_by (raised o c.args.mark g) es) (sym c.in-Some.is)

pub returns-in_default-place_among : goal.returns-in_default-place_among
returns-in_default-place_among c = λ g e.
    e ∙ raise_unknown_node g c.args.mark c.args.nodes.now c.in-Some.parent c.requires.listed (sym c.in_default-place_among.ensures.known) ∙ ap (λ o. marks_by (raised o c.args.mark g) (entries_of c.args.nodes.now)) (sym c.in-Some.is)
