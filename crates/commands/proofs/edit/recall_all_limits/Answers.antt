use Rattle.std.proofs.Common.{All, arith, subst}
use Rattle.std.proofs.lemmas.List.{take_all}
use Rattle.model.specs.Command.{IsEdit}
use Rattle.commands.proofs.Steps.{All_next}
use Rattle.commands.proofs.edit.recall_all_limits.Goals as goal

pub loop-edit-preserved : goal.loop-edit-preserved
loop-edit-preserved c =
    All_next IsEdit c.args.edits.now c.loop-edit.edit-index c.edit-item.result (omega arith) c.edit-item.is c.loop-edit.invariant c.recall_limits.ensures.is_edit

pub returns : goal.returns
returns c = record { are_edits = subst (All IsEdit) (take_all c.loop-edit.edit-index c.args.edits.now (omega arith)) c.loop-edit.invariant }
