use Rattle.std.proofs.Common.{All, take}
use Rattle.model.specs.Command.{IsMerge}
use Rattle.commands.proofs.merge.recall_all_merges.Given as goal

abbrev pub invariant-loop-merge : goal.invariant-loop-merge
invariant-loop-merge l = All IsMerge (take l.merge-index l.merges)
