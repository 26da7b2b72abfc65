use Rattle.std.proofs.Common.{All, take}
use Rattle.model.specs.Command.{FitsMerge}
use Rattle.history_json.proofs.outcome.are_merged.Given as goal

abbrev pub invariant-loop-outcome : goal.invariant-loop-outcome
invariant-loop-outcome l = All FitsMerge (take l.outcome-index l.outcomes)
