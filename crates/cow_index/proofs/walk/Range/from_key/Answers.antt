use Rattle.std.proofs.Common.{arith}
use Rattle.std.proofs.lemmas.Grind.{common_steps}
use Rattle.std.specs.Ordering.{is_le}
use Rattle.cow_index.proofs.Filters.{length_filter_le}
use Rattle.cow_index.proofs.walk.Range.from_key.Goals as goal

pub returns-clause-fits : goal.returns-clause-fits
returns-clause-fits g c =
    let shorter = length_filter_le (λ e. is_le (g.K.Ord.cmp c.args.key.now e.0)) c.args.root.now.0 in
    grind (arith, common_steps, shorter)
