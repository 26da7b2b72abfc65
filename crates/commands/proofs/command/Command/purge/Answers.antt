use Rattle.std.proofs.Common.{All, arith, ap, subst, length}
use Rattle.model.specs.Command.{NamesRevs}
use Rattle.commands.proofs.command.Command.purge.Goals as goal

pub invariant_of-result : goal.invariant_of-result
invariant_of-result c = (omega (arith, ap length c.documents.ensures.entries), subst (All NamesRevs) c.documents-2.ensures.entries c.recall_all_named.ensures.in_range)
