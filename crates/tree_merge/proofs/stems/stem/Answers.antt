use Rattle.model.specs.TreeChange.{stem}
use Rattle.tree_merge.proofs.Restricted.{stem_list}
use Rattle.tree_merge.proofs.stems.stem.Goals as goal

pub from_nodes-requires : goal.from_nodes-requires
from_nodes-requires c =
    let t = c.args.tree.now in
    (stem c.args.limit t, stem_list t c.in_ok-nodes.ensures.tree.forest c.args.limit c.in_ok-nodes.nodes.items c.requires c.in_ok-nodes.ensures.tree c.in_ok-nodes.ensures.range c.in_ok-nodes.ensures.kept)

pub returns : goal.returns
returns c =
    let t = c.args.tree.now in
    let listed = stem_list t c.in_ok-nodes.ensures.tree.forest c.args.limit c.in_ok-nodes.nodes.items c.requires c.in_ok-nodes.ensures.tree c.in_ok-nodes.ensures.range c.in_ok-nodes.ensures.kept in
    c.in_ok-stem.ensures (stem c.args.limit t) listed.entries
