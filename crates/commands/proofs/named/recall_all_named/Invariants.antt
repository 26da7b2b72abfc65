use Rattle.std.proofs.Common.{All, take}
use Rattle.model.specs.Command.{NamesRevs}
use Rattle.commands.proofs.named.recall_all_named.Given as goal

abbrev pub invariant-loop-document : goal.invariant-loop-document
invariant-loop-document l = All NamesRevs (take l.document-index l.documents)
