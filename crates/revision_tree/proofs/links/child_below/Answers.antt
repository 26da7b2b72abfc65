use Rattle.std.proofs.Common.{◌≡◌, ◌∙◌, Some, sym, subst}
use Rattle.std.proofs.lemmas.Bool.{true≢false}
use Rattle.std.proofs.lemmas.Option.{same_Some}
use Rattle.model.specs.Tree.{parent_of}
use Rattle.model.proofs.TreeLaws.{is_at-equal}
use Rattle.revision_runs.specs.TreeRuns.{IsWay}
use Rattle.revision_tree.specs.Nodes.{tree_of}
use Rattle.revision_tree.specs.Rows.{nodes_of}
use Rattle.revision_tree.proofs.Inside.{child_found, child_next}
use Rattle.revision_tree.proofs.links.child_below.Goals as goal

pub parent_at-child-requires-clause-parent : goal.parent_at-child-requires-clause-parent
parent_at-child-requires-clause-parent c =
    let all = tree_of (nodes_of c.args.rows.now) in
    let way = c.requires.way in
    let other : parent_of all c.loop-rev.child ≡ Some c.args.rev → ⊥ = λ e. true≢false (sym ((is_at-equal (parent_of all c.loop-rev.child) c.args.rev).1 e) ∙ sym c.is_child.ensures ∙ c.loop-rev-test.true) in
    let w = c.loop-rev.invariant way.0 way.1 way.2 way.3 way.4 way.5 way.6 in
    let s = child_next way.0 way.3 all way.6 c.args.rev way.1 way.4 w.0 c.loop-rev.child w.1 other in
    (s.parent, s.up)

pub loop-rev-preserved : goal.loop-rev-preserved
loop-rev-preserved c = λ t x n f only way part.
    let all = tree_of (nodes_of c.args.rows.now) in
    let other : parent_of all c.loop-rev.child ≡ Some c.args.rev → ⊥ = λ e. true≢false (sym ((is_at-equal (parent_of all c.loop-rev.child) c.args.rev).1 e) ∙ sym c.is_child.ensures ∙ c.loop-rev-test.true) in
    let w = c.loop-rev.invariant t x n f only way part in
    let s = child_next t f all part c.args.rev x only w.0 c.loop-rev.child w.1 other in
    (s.steps, subst (λ q. IsWay t s.steps q x) (same_Some s.parent c.parent_at-child.result (sym s.up ∙ c.parent_at-child.ensures)) s.way)

pub returns : goal.returns
returns c = λ t x n f only way part.
    let all = tree_of (nodes_of c.args.rows.now) in
    let w = c.loop-rev.invariant t x n f only way part in
    child_found t f all part c.args.rev x only w.0 c.loop-rev.child w.1 ((is_at-equal (parent_of all c.loop-rev.child) c.args.rev).0 (sym c.is_child.ensures ∙ c.loop-rev-test.false))
