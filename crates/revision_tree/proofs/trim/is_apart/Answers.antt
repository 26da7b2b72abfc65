use Rattle.std.proofs.Common.{sym, ap, ◌∙◌}
use Rattle.std.specs.Ordering.{is_lt}
use Rattle.revision_tree.proofs.Grafts.{uncons}
use Rattle.revision_tree.proofs.Trimmed.{away_first}
use Rattle.revision_tree.proofs.trim.is_apart.Goals as goal

pub returns-then-is_lt : goal.returns-then-is_lt
returns-then-is_lt c = λ e.
    let n = c.first-item.result in
    away_first c.args.rev c.args.nodes.now n _ c.requires (uncons c.args.nodes.now n c.in-len1-up.len_at_least c.first-item.is) (sym (c.is_lt.ensures ∙ ap is_lt c.cmp.ensures) ∙ c.if-is_lt.true)
