use Rattle.std.proofs.Common.{sym, ◌∙◌, ap, subst, take, arith}
use Rattle.std.proofs.Math.ListN.{length-map}
use Rattle.std.proofs.lemmas.List.{take_all}
use Rattle.revision_tree.specs.Nodes.{IsSorted, entry_of, entries_of, marked_by}
use Rattle.revision_tree.proofs.Marked.{IsSorted-marked, marks_next}
use Rattle.revision_tree.proofs.marks.mark.Goals as goal

pub mark_one-requires : goal.mark_one-requires
mark_one-requires c =
    let nodes = c.args.nodes.now in
    subst IsSorted (sym c.loop-place.invariant) (IsSorted-marked (take c.loop-place.place (entries_of nodes)) nodes c.requires)

pub loop-place-preserved : goal.loop-place-preserved
loop-place-preserved c = c.mark_one.ensures ∙ marks_next c.loop-place.nodes c.loop-place.place c.index-nodes-place.result c.args.nodes.now c.loop-place.invariant (omega (arith, c.loop-place-test.true, c.loop-place.auto.nodes))

pub returns : goal.returns
returns c =
    let nodes = c.args.nodes.now in
    c.loop-place.invariant ∙ ap (λ es. marked_by es nodes) (take_all c.loop-place.place (entries_of nodes) (omega (arith, c.loop-place-test.false, c.loop-place.auto.nodes, c.loop-place.auto.place-end, length-map nodes entry_of)))
