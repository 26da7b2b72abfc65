use Rattle.std.proofs.Common.{All, arith, subst}
use Rattle.std.proofs.lemmas.List.{take_all}
use Rattle.model.specs.Revision.{IsRev}
use Rattle.commands.proofs.Steps.{All_next}
use Rattle.commands.proofs.named.recall_all_revisions.Goals as goal

pub loop-rev-preserved : goal.loop-rev-preserved
loop-rev-preserved c =
    All_next IsRev c.args.revisions.now c.loop-rev.rev-index c.rev-item.result (omega arith) c.rev-item.is c.loop-rev.invariant c.generation-recalled.ensures.in_range

pub returns : goal.returns
returns c = record { in_range = subst (All IsRev) (take_all c.loop-rev.rev-index c.args.revisions.now (omega arith)) c.loop-rev.invariant }
