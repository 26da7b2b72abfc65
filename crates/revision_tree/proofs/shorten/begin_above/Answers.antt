use Rattle.std.proofs.Common.{arith, ltb-true}
use Rattle.revision_tree.proofs.Grafts.{uncons}
use Rattle.revision_tree.proofs.Shortened.{all_above}
use Rattle.revision_tree.proofs.shorten.begin_above.Goals as goal

pub returns : goal.returns
returns c = λ e.
    let n = c.first-item.result in
    let over = ltb-true 1 c.saturating_sub.result e in
    all_above c.args.generation c.args.nodes.now n _ c.requires (uncons c.args.nodes.now n c.in-len1-up.len_at_least c.first-item.is) (omega (arith, over, c.saturating_sub.ensures, c.generation.ensures.value))
