use Rattle.std.proofs.Common.{◌++◌, ◌∷◌, sym, ap, ◌∙◌, append_assoc, arith}
use Rattle.std.specs.Ordering.{is_le}
use Rattle.cow_index.specs.Entries.{entries_from}
use Rattle.cow_index.specs.Path.{held, waiting}
use Rattle.cow_index.specs.Tree.{pair_of}
use Rattle.cow_index.proofs.Turns.{turn, left_sorted, right_sorted, kept-left, kept-right, kept-here}
use Rattle.cow_index.proofs.walk.Path.descend_node_from.Goals as goal

pub descend_from-requires : goal.descend_from-requires
descend_from-requires g c =
    let at = turn g.K.Ord.cmp c.requires.root c.requires.sorted c.in-Less.ensures in
    (omega arith, (left_sorted at, (c.push.ensures.fit, omega (arith, c.push.ensures.depth, c.requires.room))))

pub descend_from-requires-in-Greater : goal.descend_from-requires-in-Greater
descend_from-requires-in-Greater g c =
    let at = turn g.K.Ord.cmp c.requires.root c.requires.sorted c.in-Greater.ensures in
    (omega arith, (right_sorted at, (c.requires.fit, omega (arith, c.requires.room))))

pub returns-in-Less-clause-waiting : goal.returns-in-Less-clause-waiting
returns-in-Less-clause-waiting g c =
    let at = turn g.K.Ord.cmp c.requires.root c.requires.sorted c.in-Less.ensures in
    let n = c.args.node.now in
    let left = entries_from g.K.Ord.cmp c.args.key.now n.left.0 in
    c.descend_from.ensures.waiting
    ∙ ap (λ w. left ++ w) c.push.ensures.waiting ∙ sym (append_assoc left (pair_of n.entry ∷ n.right.0) (waiting (held c.args.self.now)))
    ∙ ap (λ es. es ++ waiting (held c.args.self.now)) (sym (kept-left g.met.K.Ord.total is_le at))

pub returns-in-Greater-clause-waiting : goal.returns-in-Greater-clause-waiting
returns-in-Greater-clause-waiting g c =
    let at = turn g.K.Ord.cmp c.requires.root c.requires.sorted c.in-Greater.ensures in
    c.descend_from-in-Greater.ensures.waiting ∙ ap (λ es. es ++ waiting (held c.args.self.now)) (sym (kept-right g.met.K.Ord.total is_le at))

pub returns-in-Equal-clause-waiting : goal.returns-in-Equal-clause-waiting
returns-in-Equal-clause-waiting g c =
    let at = turn g.K.Ord.cmp c.requires.root c.requires.sorted c.in-Equal.ensures in
    c.push-in-Equal.ensures.waiting ∙ ap (λ es. es ++ waiting (held c.args.self.now)) (sym (kept-here g.met.K.Ord.total is_le at))
