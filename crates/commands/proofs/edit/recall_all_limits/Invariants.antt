use Rattle.std.proofs.Common.{All, take}
use Rattle.model.specs.Command.{IsEdit}
use Rattle.commands.proofs.edit.recall_all_limits.Given as goal

abbrev pub invariant-loop-edit : goal.invariant-loop-edit
invariant-loop-edit l = All IsEdit (take l.edit-index l.edits)
