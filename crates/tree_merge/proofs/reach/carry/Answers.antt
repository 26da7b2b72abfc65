use Rattle.std.proofs.Common.{◌∙◌, length, drop, sym, ap, arith}
use Rattle.std.proofs.Math.ListN.{length-map}
use Rattle.std.proofs.lemmas.List.{drop_all}
use Rattle.revision_tree.specs.Nodes.{entry_of, entries_of}
use Rattle.tree_merge.specs.Reach.{reach}
use Rattle.tree_merge.proofs.Raised.{marks_by, carry_step, carried}
use Rattle.tree_merge.proofs.reach.carry.Goals as goal

pub loop-place-init : goal.loop-place-init
loop-place-init c = λ g e.
    let nodes = c.args.nodes.now in
    let es = entries_of nodes in
    e ∙ ap (λ xs. marks_by (reach g xs) es) (sym (drop_all (length nodes) es (omega (arith, length-map nodes entry_of))))

pub loop-place-preserved : goal.loop-place-preserved
loop-place-preserved c = λ g e.
    let before = c.loop-place.invariant g e in
    carry_step g c.args.nodes.now c.loop-place.place c.index-nodes-place.result c.loop-place.marks c.raise.new.marks c.saturating_sub-mark.result
    c.loop-place-test.true c.loop-place.auto.place before c.saturating_sub-mark.ensures (c.raise.ensures (reach g (drop c.loop-place.place (entries_of c.args.nodes.now))) before)

pub returns : goal.returns
returns c = λ g e. carried g (entries_of c.args.nodes.now) c.loop-place.place c.loop-place.marks c.loop-place-test.false (c.loop-place.invariant g e)
