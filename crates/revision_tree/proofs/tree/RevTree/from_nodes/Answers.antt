use Rattle.std.proofs.Common.{◌≡◌, sym, ap, ◌∙◌, subst, length, arith}
use Rattle.std.specs.Vec.{with_items}
use Rattle.std.proofs.Math.ListN.{length-map}
use Rattle.std.proofs.lemmas.List.{with_items_is}
use Rattle.std.proofs.lemmas.Result.{IfOk-weaker}
use Rattle.revision_tree.specs.Nodes.{IsNodes, entries_of, tree_of, marked_in, marked_by}
use Rattle.revision_tree.proofs.Listed.{tree_of-list}
use Rattle.revision_tree.proofs.Marked.{IsNodes-marked, entries-marked_by}
use Rattle.revision_tree.proofs.tree.RevTree.from_nodes.Goals as goal

pub from_marked-requires : goal.from_marked-requires
from_marked-requires c =
    let nodes = c.args.nodes.items in
    let same = c.mark.ensures ∙ ap (λ ns. marked_by (entries_of ns) ns) c.deref_mut.ensures.value in
    let long : length c.mark.new.nodes ≡ c.args.nodes.len = omega (arith, ap length same, length-map nodes (marked_in (entries_of nodes)), c.args.nodes.ok.0) in
    let made = with_items_is c.args.nodes c.mark.new.nodes long ∙ same in
    subst IsNodes (sym made) (IsNodes-marked nodes c.requires.0 c.requires.1)

pub returns : goal.returns
returns c = λ t e.
    let nodes = c.args.nodes.items in
    let same = c.mark.ensures ∙ ap (λ ns. marked_by (entries_of ns) ns) c.deref_mut.ensures.value in
    let long : length c.mark.new.nodes ≡ c.args.nodes.len = omega (arith, ap length same, length-map nodes (marked_in (entries_of nodes)), c.args.nodes.ok.0) in
    let whole = ap tree_of (with_items_is c.args.nodes c.mark.new.nodes long ∙ same) ∙ tree_of-list (marked_by (entries_of nodes) nodes) t (e ∙ sym (entries-marked_by (entries_of nodes) nodes)) in
    IfOk-weaker c.from_marked.result (λ made. made ≡ tree_of (with_items c.args.nodes c.mark.new.nodes).items) (λ made. made ≡ t) (λ made is. is ∙ whole) c.from_marked.ensures
