-- One more of them is an id.
use Rattle.std.proofs.Common.{All, arith, subst}
use Rattle.std.proofs.lemmas.List.{take_all}
use Rattle.std.proofs.lemmas.List.Elements.{All-more}
use Rattle.model.specs.Command.{IsId}
use Rattle.document_id.proofs.ids.recall_all.Goals as goal

pub loop-id-preserved : goal.loop-id-preserved
loop-id-preserved c = All-more IsId c.args.ids.now c.loop-id.id-index c.id-item.result (omega arith) c.loop-id.invariant (subst IsId c.id-item.is c.as_str-recalled.ensures.is_id)

pub returns : goal.returns
returns c = subst (All IsId) (take_all c.loop-id.id-index c.args.ids.now (omega arith)) c.loop-id.invariant
