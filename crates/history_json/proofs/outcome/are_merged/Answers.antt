use Rattle.std.proofs.Common.{refl, arith}
use Rattle.model.specs.Command.{FitsMerge}
use Rattle.commands.proofs.Steps.{All_next}
use Rattle.history_json.proofs.outcome.are_merged.Goals as goal

pub loop-outcome-preserved : goal.loop-outcome-preserved
loop-outcome-preserved c =
    All_next FitsMerge c.args.outcomes.now c.loop-outcome.outcome-index c.outcome-item.result (omega arith) c.outcome-item.is c.loop-outcome.invariant (c.if-not-is_merged.ensures.0 refl)
