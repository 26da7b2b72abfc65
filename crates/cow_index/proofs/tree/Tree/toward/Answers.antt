use Rattle.std.proofs.Common.{Some, sym, ap, ◌∙◌}
use Rattle.cow_index.proofs.Turns.{turn, left_sorted, right_sorted, find-left, find-right, find-here}
use Rattle.cow_index.proofs.tree.Tree.toward.Goals as goal

pub returns-in-Less : goal.returns-in-Less
returns-in-Less g c =
    let at = turn g.K.Ord.cmp c.in-Some.ensures.root c.requires c.in-Less.ensures in
    record { ordered = left_sorted at; same = sym (find-left g.met.K.Ord.total at) }

pub returns-in-Greater : goal.returns-in-Greater
returns-in-Greater g c =
    let at = turn g.K.Ord.cmp c.in-Some.ensures.root c.requires c.in-Greater.ensures in
    record { ordered = right_sorted at; same = sym (find-right g.met.K.Ord.total at) }

pub returns-in-Equal : goal.returns-in-Equal
returns-in-Equal g c =
    let at = turn g.K.Ord.cmp c.in-Some.ensures.root c.requires c.in-Equal.ensures in
    record { ordered = tt; same = ap (λ e. Some e.value) c.deref-entry.ensures ∙ sym (find-here g.met.K.Ord.total at) }
