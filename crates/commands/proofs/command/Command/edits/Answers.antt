use Rattle.std.proofs.Common.{All, arith, subst, sym, length, ◌≤◌, List}
use Rattle.model.specs.Command.{Edit, IsEdit, max_edits}
use Rattle.commands.proofs.command.Command.edits.Goals as goal

pub invariant_of-result : goal.invariant_of-result
invariant_of-result c =
    subst (λ (edits : List Edit). (length edits ≤ max_edits) × All IsEdit edits) (sym c.from_vec.ensures.items) (omega arith, subst (All IsEdit) c.deref.ensures.value c.recall_all_limits.ensures.are_edits)
