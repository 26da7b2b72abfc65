use Rattle.std.proofs.Common.{◌∙◌, ap, get_or}
use Rattle.std.specs.Prelude.{nat_lt}
use Rattle.revision_tree.specs.Nodes.{entries_of, tree_of}
use Rattle.tree_merge.proofs.Raised.{mark_at, place_entry, sorted_in_list}
use Rattle.tree_merge.proofs.restrict.is_marked.Goals as goal

pub place_among-requires : goal.place_among-requires
place_among-requires c = sorted_in_list c.args.nodes.now (tree_of c.args.nodes.now) c.requires.listed

pub returns-in-Some : goal.returns-in-Some
returns-in-Some c = λ g e.
    let at = place_entry c.args.nodes.now c.in-Some.place c.args.rev c.in-Some.ensures.place in
    ap (λ ms. nat_lt 0 (get_or ms c.in-Some.place 0)) e ∙ ap (nat_lt 0) (mark_at g (entries_of c.args.nodes.now) c.in-Some.place 0 c.args.rev at.0 at.1)
