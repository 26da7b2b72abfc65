use Rattle.std.proofs.Common.{◌∙◌, ◌&&◌, sym, ap}
use Rattle.revision_tree.specs.Walk.{left_of}
use Rattle.tree_merge.proofs.Compared.{Alike, compared, counted_apart, alike_next, alike_short, alike_last}
use Rattle.tree_merge.proofs.matches.is_same.Goals as goal

pub returns-then-count : goal.returns-then-count
returns-then-count c = sym (counted_apart c.args.one.now c.args.other.now c.count.result c.count-2.result 18446744073709551615 c.count.ensures c.count-2.ensures c.if-count.true)

pub loop-node-init : goal.loop-node-init
loop-node-init c = sym (compared c.args.one.now c.args.other.now (left_of c.nodes-mine.result) (left_of c.nodes-theirs.result) c.nodes-mine.ensures c.nodes-theirs.ensures)

pub returns-in_default-next : goal.returns-in_default-next
returns-in_default-next c =
    sym (alike_short (left_of c.loop-node.mine) (left_of c.loop-node.theirs) (left_of c.next.new.self) c.in-Some.node.now c.in-Some.ensures.steps c.in_default-next.ensures.steps.0) ∙ c.loop-node.invariant

pub returns-then-not-is_same_node : goal.returns-then-not-is_same_node
returns-then-not-is_same_node c =
    let m = c.in-Some.node.now in
    let n = c.in-Some-next.other.now in
    let ms = left_of c.next.new.self in
    let ns = left_of c.next-in-Some.new.self in
    ap (λ b. b && Alike ms ns) (sym c.if-not-is_same_node.true ∙ c.is_same_node.ensures)
    ∙ sym (alike_next (left_of c.loop-node.mine) (left_of c.loop-node.theirs) ms ns m n c.in-Some.ensures.steps c.in-Some-next.ensures.steps) ∙ c.loop-node.invariant

pub returns : goal.returns
returns c =
    alike_last (left_of c.loop-node.mine) (left_of c.loop-node.theirs) (left_of c.next-2.new.self) c.next-2.result c.is_none.result c.in_default.ensures.steps.0 c.is_none.ensures c.next-2.ensures.steps ∙ c.loop-node.invariant
