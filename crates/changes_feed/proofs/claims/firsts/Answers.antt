use Rattle.revision_tree.specs.Nodes.{tree_of}
use Rattle.revision_tree.proofs.Pieces.{some_of}
use Rattle.changes_feed.specs.Latest.{first_above}
use Rattle.changes_feed.proofs.FirstPlaces.{beside_more}
use Rattle.changes_feed.proofs.claims.firsts.Goals as goal

pub loop-place-preserved : goal.loop-place-preserved
loop-place-preserved c =
    let nodes = c.args.nodes.now in
    let n = some_of nodes c.loop-place.place c.loop-place-test.true in
    beside_more (first_above c.args.revs.now (tree_of nodes)) nodes c.loop-place.place c.first_at-first.result n c.loop-place.firsts.items c.push.new.self.items c.loop-place-test.true
    c.loop-place.invariant (c.first_at-first.ensures n) c.in_ok-push.ensures.items
