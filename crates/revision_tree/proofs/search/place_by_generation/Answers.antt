use Rattle.std.proofs.Common.{sym, ap, ◌∙◌, get_or, arith}
use Rattle.model.specs.Revision.{same_rev-equal}
use Rattle.revision_tree.specs.declared.node.Node.{Node}
use Rattle.revision_tree.proofs.Places.{place_of-node}
use Rattle.revision_tree.proofs.search.place_by_generation.Goals as goal

pub returns-then-eq : goal.returns-then-eq
returns-then-eq c =
    let nodes = c.args.nodes.now in
    let i = c.saturating_sub-place.result in
    let n = c.index-nodes-place.result in
    let same = (same_rev-equal (get_or nodes i n).rev c.args.rev).0 (sym c.eq.ensures ∙ c.if-eq.true) in
    place_of-node nodes c.args.rev i n (omega (arith, c.if-place-nodes.false)) c.index-nodes-place.is (ap (λ (m : Node). m.rev) c.index-nodes-place.is ∙ same)
