use Rattle.std.proofs.Common.{sym, subst}
use Rattle.model.specs.Revision.{Rev}
use Rattle.revision_runs.specs.Changes.{IsInside}
use Rattle.revision_runs.specs.Runs.{RunMap, HangsUnder, IsNearestUnder}
use Rattle.revision_tree.proofs.Inside.{found_inside, leaf_end}
use Rattle.revision_tree.proofs.links.linked.Goals as goal

hanging : (runs : RunMap) (f top : Rev) → IsNearestUnder runs f top → HangsUnder runs f top
hanging runs f top n = record { run = n.run; is = n.is; fork = n.fork }

pub linked_to_fork-requires : goal.linked_to_fork-requires
linked_to_fork-requires c =
    let l = c.requires.linked in
    (l.0, l.1, l.2, l.3, c.in-Some._nearest, hanging c.args.runs c.args.parent c.in-Some._nearest c.in-Some.ensures.some)

pub returns-in-Some : goal.returns-in-Some
returns-in-Some c = λ t u b l k part.
    c.linked_to_fork.ensures t u c.in-Some._nearest b l (hanging c.args.runs c.args.parent c.in-Some._nearest c.in-Some.ensures.some)

pub linked_to_leaf-requires : goal.linked_to_leaf-requires
linked_to_leaf-requires c =
    let l = c.requires.linked in
    (l.0, l.1, l.2, l.3, leaf_end l.0 l.2.before c.args.runs l.2.runs c.args.parent c.in-Some-ending_at._top c.in-Some-ending_at.ensures.some (c.nearest_under.ensures.none c.in_default.is))

pub returns-in-Some-ending_at : goal.returns-in-Some-ending_at
returns-in-Some-ending_at c = λ t u b l k part.
    c.linked_to_leaf.ensures t u b l (leaf_end t b.before c.args.runs b.runs c.args.parent c.in-Some-ending_at._top c.in-Some-ending_at.ensures.some (c.nearest_under.ensures.none c.in_default.is))

pub child_below-child-requires-clause-way : goal.child_below-child-requires-clause-way
child_below-child-requires-clause-way c =
    let l = c.requires.linked in
    let way = c.top_above-top.ensures.way l.0 l.2.before l.2.runs l.4 l.5 in
    let x = found_inside l.0 l.2.before c.args.runs l.2.runs c.args.parent c.top_above-top.result c.run_at-run.result way.0 l.4 way.1 c.run_at-run.ensures (c.nearest_under.ensures.none c.in_default.is) (c.ending_at.ensures.none c.in_default-ending_at.is) in
    (l.0, x.child, x.inside.below, l.2.before, x.inside.only, x.down, l.5)

pub linked_inside-requires : goal.linked_inside-requires
linked_inside-requires c =
    let l = c.requires.linked in
    let top = c.top_above-top.result in
    let way = c.top_above-top.ensures.way l.0 l.2.before l.2.runs l.4 l.5 in
    let x = found_inside l.0 l.2.before c.args.runs l.2.runs c.args.parent top c.run_at-run.result way.0 l.4 way.1 c.run_at-run.ensures (c.nearest_under.ensures.none c.in_default.is) (c.ending_at.ensures.none c.in_default-ending_at.is) in
    (l.0, l.1, l.2, l.3, subst (λ q. IsInside l.0 c.args.runs c.args.parent q top) (sym (c.child_below-child.ensures l.0 x.child x.inside.below l.2.before x.inside.only x.down l.5)) x.inside)

pub returns : goal.returns
returns c = λ t u b l k part.
    let top = c.top_above-top.result in
    let way = c.top_above-top.ensures.way t b.before b.runs k part in
    let x = found_inside t b.before c.args.runs b.runs c.args.parent top c.run_at-run.result way.0 k way.1 c.run_at-run.ensures (c.nearest_under.ensures.none c.in_default.is) (c.ending_at.ensures.none c.in_default-ending_at.is) in
    c.linked_inside.ensures t u b l (subst (λ q. IsInside t c.args.runs c.args.parent q top) (sym (c.child_below-child.ensures t x.child x.inside.below b.before x.inside.only x.down part)) x.inside)
