use Rattle.std.proofs.Common.{All, arith, subst}
use Rattle.std.proofs.lemmas.List.{take_all}
use Rattle.model.specs.Command.{IsMerge}
use Rattle.commands.proofs.Steps.{All_next}
use Rattle.commands.proofs.merge.recall_all_merges.Goals as goal

pub loop-merge-preserved : goal.loop-merge-preserved
loop-merge-preserved c =
    All_next IsMerge c.args.merges.now c.loop-merge.merge-index c.merge-item.result (omega arith) c.merge-item.is c.loop-merge.invariant c.path-recalled.ensures.is_merge

pub returns : goal.returns
returns c = record { are_merges = subst (All IsMerge) (take_all c.loop-merge.merge-index c.args.merges.now (omega arith)) c.loop-merge.invariant }
