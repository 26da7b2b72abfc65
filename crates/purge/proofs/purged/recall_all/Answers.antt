use Rattle.std.proofs.Common.{All, arith, subst}
use Rattle.std.proofs.lemmas.List.{take_all}
use Rattle.std.proofs.lemmas.List.Elements.{All-more}
use Rattle.model.specs.Revision.{IsRev}
use Rattle.purge.proofs.purged.recall_all.Goals as goal

pub loop-rev-preserved : goal.loop-rev-preserved
loop-rev-preserved c = All-more IsRev c.args.revs.now c.loop-rev.rev-index c.rev-item.result (omega arith) c.loop-rev.invariant (subst IsRev c.rev-item.is c.generation-recalled.ensures.in_range)

pub returns : goal.returns
returns c = subst (All IsRev) (take_all c.loop-rev.rev-index c.args.revs.now (omega arith)) c.loop-rev.invariant
