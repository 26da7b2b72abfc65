use Rattle.std.proofs.Common.{Some, sym, ap, ◌∙◌}
use Rattle.cow_index.proofs.Turns.{turn, left_sorted, right_sorted, find-left, find-right, find-here}
use Rattle.cow_index.proofs.tree.Node.get.Goals as goal

pub get-requires : goal.get-requires
get-requires g c = left_sorted (turn g.K.Ord.cmp c.requires.root c.requires.sorted c.in-Less.ensures)

pub get-requires-in-Greater : goal.get-requires-in-Greater
get-requires-in-Greater g c = right_sorted (turn g.K.Ord.cmp c.requires.root c.requires.sorted c.in-Greater.ensures)

pub returns-in-Less : goal.returns-in-Less
returns-in-Less g c =
    let at = turn g.K.Ord.cmp c.requires.root c.requires.sorted c.in-Less.ensures in
    c.get.ensures ∙ sym (find-left g.met.K.Ord.total at)

pub returns-in-Greater : goal.returns-in-Greater
returns-in-Greater g c =
    let at = turn g.K.Ord.cmp c.requires.root c.requires.sorted c.in-Greater.ensures in
    c.get-in-Greater.ensures ∙ sym (find-right g.met.K.Ord.total at)

pub returns-in-Equal : goal.returns-in-Equal
returns-in-Equal g c =
    let at = turn g.K.Ord.cmp c.requires.root c.requires.sorted c.in-Equal.ensures in
    ap (λ e. Some e.value) c.deref-entry.ensures ∙ sym (find-here g.met.K.Ord.total at)
