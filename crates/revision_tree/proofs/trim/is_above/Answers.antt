use Rattle.std.proofs.Common.{sym, ap, ◌∙◌}
use Rattle.std.specs.Ordering.{is_lt}
use Rattle.revision_tree.proofs.Ends.{last_part}
use Rattle.revision_tree.proofs.Trimmed.{away_last}
use Rattle.revision_tree.proofs.trim.is_above.Goals as goal

pub returns : goal.returns
returns c = λ e.
    let n = c.last-item.result in
    away_last c.args.rev c.args.nodes.now _ n c.requires (last_part c.args.nodes.now n c.in-len1-up.len_at_least c.last-item.is) (sym (c.is_lt.ensures ∙ ap is_lt c.cmp.ensures) ∙ e)
