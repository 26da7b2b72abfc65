use Rattle.std.proofs.Common.{rules, ◌∙◌, ap}
use Rattle.std.proofs.lemmas.Fn.{always_returns_same}
use Rattle.model.specs.Revision.{rev_cmp}
use Rattle.revision_tree.specs.Nodes.{rows_of}
use Rattle.revision_tree.proofs.Places.{rising, nondecreasing}
use Rattle.revision_tree.proofs.Rowed.{put_set, put_insert}
use Rattle.revision_tree.proofs.put.put_among.Goals as goal

pub returns-in-Ok : goal.returns-in-Ok
returns-in-Ok c =
    let found = c.in-Ok.ensures.position (λ n. rev_cmp n.rev c.args.node.rev) (always_returns_same _ _ _ (λ a r f k. search rules)) in
    let at = rw c.deref.ensures.value at found in
    let lt = rw c.deref.ensures.value at c.in-Ok.ensures.bound in
    put_set c.args.nodes.now.items c.in-Ok.place c.args.node (rising c.args.nodes.now.items c.requires) lt at

pub returns-in_ok-insert-in-Err : goal.returns-in_ok-insert-in-Err
returns-in_ok-insert-in-Err c =
    let items = c.args.nodes.now.items in
    let sorted = nondecreasing items c.args.node.rev c.requires in
    let found = c.in-Err.ensures.position (λ n. rev_cmp n.rev c.args.node.rev) (always_returns_same _ _ _ (λ a r f k. search rules)) in
    let at = rw c.deref.ensures.value at found in
    let le = rw c.deref.ensures.value at c.in-Err.ensures.bound in
    ap rows_of c.in_ok-insert-in-Err.ensures.items ∙ put_insert items c.in-Err.place c.args.node le (at sorted)
