use Rattle.std.proofs.Common.{sym, ◌∙◌}
use Rattle.model.proofs.TreeLaws.{is_at-equal}
use Rattle.revision_tree.proofs.Grown.{linked_first, linked_none}
use Rattle.revision_tree.proofs.growth.has_next.Goals as goal

pub returns-in_default : goal.returns-in_default
returns-in_default c = λ e d b. linked_none c.args.older.now (record { parent = c.args.parent; deleted = d; body = b }) c.in_default.len_below

pub returns : goal.returns
returns c = λ e d b.
    let next = c.next-item.result in
    linked_first c.args.older.now next (record { parent = c.args.parent; deleted = d; body = b }) c.in-len1-up.len_at_least c.next-item.is ((is_at-equal c.args.parent next).0 (sym c.has_parent.ensures ∙ e))
