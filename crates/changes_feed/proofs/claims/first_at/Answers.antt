-- The parent of a node comes before it.
use Rattle.std.specs.Prelude.{min, Contains}
use Rattle.std.proofs.Common.{sym, ap, ◌∙◌, arith}
use Rattle.std.proofs.lemmas.Bool.{true≢false}
use Rattle.revision_tree.specs.declared.node.Node.{Node}
use Rattle.revision_tree.specs.Nodes.{tree_of}
use Rattle.revision_tree.proofs.Places.{same_at}
use Rattle.changes_feed.specs.Latest.{first_above}
use Rattle.changes_feed.proofs.FirstPlaces.{first_alone, first_below, parent_listed, parent_before, beside_short, beside_before}
use Rattle.changes_feed.proofs.claims.first_at.Goals as goal

pub returns-in_default : goal.returns-in_default
returns-in_default c = λ n.
    let nodes = c.args.nodes.now in
    let m = c.index-nodes-place.result in
    c.place_in-own.ensures ∙ first_alone c.args.revs.now nodes c.requires.listed m (c.args.place, c.requires.place, sym c.index-nodes-place.is) c.in_default.is
    ∙ ap (λ (k : Node). first_above c.args.revs.now (tree_of nodes) k.rev) (c.index-nodes-place.is ∙ same_at nodes c.args.place m n c.requires.place)

pub returns-in_default-place_among : goal.returns-in_default-place_among
returns-in_default-place_among c = λ n.
    let here : Contains c.args.nodes.now c.index-nodes-place.result = (c.args.place, c.requires.place, sym c.index-nodes-place.is) in
    let known = (parent_listed c.args.revs.now c.args.nodes.now c.requires.listed c.index-nodes-place.result c.in-Some.parent c.in-Some.is here).0 in
    absurd (true≢false (sym known ∙ sym c.in_default-place_among.ensures.known))

pub bounds-firsts-above : goal.bounds-firsts-above
bounds-firsts-above c =
    let nodes = c.args.nodes.now in
    let before = parent_before c.args.revs.now nodes c.requires.listed c.index-nodes-place.result c.in-Some.parent c.in-Some.is c.args.place c.in-Some-place_among.above c.requires.place c.index-nodes-place.is c.in-Some-place_among.ensures.place in
    omega (arith, before, beside_short (first_above c.args.revs.now (tree_of nodes)) nodes c.args.place c.args.firsts.now (omega (arith, c.requires.place)) c.requires.before)

pub returns : goal.returns
returns c = λ n.
    let nodes = c.args.nodes.now in
    let m = c.index-nodes-place.result in
    let p = c.in-Some.parent in
    let g = first_above c.args.revs.now (tree_of nodes) in
    let before = parent_before c.args.revs.now nodes c.requires.listed m p c.in-Some.is c.args.place c.in-Some-place_among.above c.requires.place c.index-nodes-place.is c.in-Some-place_among.ensures.place in
    c.min.ensures
    ∙ (λ i. min (c.place_in-own.ensures i) (beside_before g nodes c.in-Some-place_among.above 0 p c.in-Some-place_among.ensures.place c.args.place c.args.firsts.now before c.requires.before i))
    ∙ first_below c.args.revs.now nodes c.requires.listed m p c.in-Some.is (c.args.place, c.requires.place, sym c.index-nodes-place.is)
    ∙ ap (λ (k : Node). g k.rev) (c.index-nodes-place.is ∙ same_at nodes c.args.place m n c.requires.place)
