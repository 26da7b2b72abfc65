use Rattle.std.specs.Prelude.{All, List}
use Rattle.std.proofs.Common.{◌∙◌, arith, rules, subst, sym}
use Rattle.std.proofs.lemmas.Bool.{true≢false}
use Rattle.std.proofs.lemmas.List.{take_all}
use Rattle.std.proofs.lemmas.List.Elements.{All-more}
use Rattle.revision_tree.specs.declared.node.Node.{Node}
use Rattle.revision_tree.specs.Decided.{IsRooted}
use Rattle.revision_tree.specs.Nodes.{tree_of}
use Rattle.revision_tree.proofs.Deciding.{rooted_in_tree, some_rooted}
use Rattle.revision_tree.proofs.decide.are_rooted.Goals as goal

pub loop-node-preserved : goal.loop-node-preserved
loop-node-preserved c =
    let nodes : List Node = c.args.nodes.now in
    let P = IsRooted (tree_of nodes) in
    All-more P nodes c.loop-node.node-index c.node-item.result (omega arith) c.loop-node.invariant (subst P c.node-item.is (c.is_rooted.ensures.0 c.if-not-is_rooted.false))

pub returns-then-not-is_rooted : goal.returns-then-not-is_rooted
returns-then-not-is_rooted c =
    let nodes : List Node = c.args.nodes.now in
    let i = c.loop-node.node-index in
    let n : Node = c.node-item.result in (
      λ e. absurd (true≢false (sym e)),
      λ is. absurd (true≢false (sym (c.is_rooted.ensures.1 (rooted_in_tree nodes c.requires.sorted c.requires.inner is n (i, omega arith, sym c.node-item.is))) ∙ c.if-not-is_rooted.true)),
    )

pub returns : goal.returns
returns c =
    let nodes : List Node = c.args.nodes.now in
    let P = IsRooted (tree_of nodes) in
    let all : All P nodes = subst (All P) (take_all c.loop-node.node-index nodes (omega arith)) c.loop-node.invariant in
    some_rooted nodes c.requires.sorted c.requires.inner c.requires.ranges all _ (search rules)
